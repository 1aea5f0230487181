-- The tables of a fresh core.
use Rattle.scholten_core.proofs.Words.{◌≡◌, ℕ, ◌+◌, false, Option, None, List, [], length, get_or, set, replicate, sym, ap, ◌∙◌, subst, inl, inr, arith, length-set, get_or-set_same, get_or-set_other, cases_lt, GraphData, IsGraph, HasVertex, Algebra, Token, Idle, Message, Network, network, CoreState, opening, put, is_idle, CoreView, state_of, network_of, AreDeficits, AreTablesSized, IsRun, network_in, IsDiffusion, tail-entry, put_set}
use Rattle.std.proofs.lemmas.List.{get_or_past, get_or-replicate, length-replicate}
use Rattle.scholten_core.proofs.Counted.{counted_more, idle_counted}

replicate_reads : {X : Type 0} (n : ℕ) (x : X) → ◌≡◌ {A = ℕ → X} (λ j. get_or (replicate n x) j x) (λ j. x)
replicate_reads n x = λ i j. (elim (cases_lt j n) as (λ _. get_or (replicate n x) j x ≡ x) [
  | inl l ↦ get_or-replicate n j x x l
  | inr l ↦ get_or_past (replicate n x) j x (let e = length-replicate n x in omega (arith, e))
]) i

abbrev state_at : {V : Type 0} → List (Option V) → List (Option ℕ) → List (Token V) → List (Option V) → CoreState V
state_at labels engagers tokens told = record {
  label = λ v. get_or labels v None;
  engager = λ v. get_or engagers v None;
  token = λ b. get_or tokens b Idle;
  told = λ b. get_or told b None;
}

pub opened_state : {V : Type 0} (A : Algebra V) (N : Network) (labels : List (Option V)) (engagers : List (Option ℕ)) (first tokens : List (Token V)) (told : List (Option V)) (n m : ℕ) →
    labels ≡ replicate n None → engagers ≡ replicate n None → first ≡ replicate (m + 1) Idle → tokens ≡ set first 0 (Message A.origin) → told ≡ replicate (m + 1) None →
    state_at labels engagers tokens told ≡ opening A N
opened_state {V = V} A N labels engagers first tokens told n m l e k s d =
    (λ i. record {
      label = λ v. get_or (l i) v None;
      engager = λ v. get_or (e i) v None;
      token = λ b. get_or ((s ∙ ap (λ xs. set xs 0 (Message A.origin)) k) i) b Idle;
      told = λ b. get_or (d i) b None;
    })
    ∙ (λ i. record {
      label = replicate_reads n None i;
      engager = replicate_reads n None i;
      token = (put_set (replicate (m + 1) Idle) 0 (Message A.origin) Idle (let q = length-replicate {A = Token V} (m + 1) Idle in omega (arith, q))
          ∙ ap (λ f. put f 0 (Message A.origin)) (replicate_reads (m + 1) Idle)) i;
      told = replicate_reads (m + 1) None i;
    })

pub opened_sized : {S V : Type 0} (t : CoreView S V) (first : List (Token V)) (m : Token V) (zeros : List ℕ) → IsDiffusion t.diffusion →
    t.labels ≡ replicate (t.diffusion.roads.vertices + 1) None → t.engagers ≡ replicate (t.diffusion.roads.vertices + 1) None →
    first ≡ replicate (length t.diffusion.roads.arcs + 1) Idle → t.tokens ≡ set first 0 m → is_idle m ≡ false → t.told ≡ replicate (length t.diffusion.roads.arcs + 1) None →
    zeros ≡ replicate (t.diffusion.roads.vertices + 1) 0 → t.deficits ≡ set zeros 0 1 → AreTablesSized t
opened_sized {V = V} t first m zeros Q l e k s b d z y =
    let long = ap length k ∙ length-replicate {A = Token V} (length t.diffusion.roads.arcs + 1) Idle in
    let wide = ap length z ∙ length-replicate (t.diffusion.roads.vertices + 1) 0 in
    let none : CoreState V = state_at t.labels t.engagers first t.told in
    let entry = tail-entry t.diffusion.roads in
    let idle = λ (j : ℕ). ap (λ xs. get_or xs j Idle) k ∙ ap (λ f. f j) (replicate_reads (length t.diffusion.roads.arcs + 1) Idle) in
    record {
      diffusion = Q;
      labels = ap length l ∙ length-replicate _ _;
      engagers = ap length e ∙ length-replicate _ _;
      tokens = ap length s ∙ length-set first 0 m ∙ long;
      told = ap length d ∙ length-replicate _ _;
      deficits = ap length y ∙ length-set zeros 0 1 ∙ wide;
      counted = subst (λ xs. AreDeficits (network_of t) t.diffusion.roads.vertices xs (state_of t)) (ap (λ u. set zeros u 1) entry ∙ sym y)
          (counted_more (network_of t) t.diffusion.roads.vertices zeros 0 1 (state_at t.labels t.engagers first t.told) (state_of t) (omega arith)
          (λ j n. ap (λ xs. get_or xs j Idle) s ∙ get_or-set_other first 0 j m Idle n)
          (ap is_idle (idle 0))
          (ap (λ xs. is_idle (get_or xs 0 Idle)) s ∙ ap is_idle (get_or-set_same first 0 m Idle (omega (arith, long))) ∙ b)
          (omega (arith, entry, wide))
          (let r = ap (λ xs. get_or xs ((network_of t).tail 0) 0) z ∙ ap (λ f. f ((network_of t).tail 0)) (replicate_reads (t.diffusion.roads.vertices + 1) 0) in omega (arith, r))
          (λ v h. ap (λ xs. get_or xs v 0) z ∙ ap (λ f. f v) (replicate_reads (t.diffusion.roads.vertices + 1) 0)
          ∙ sym (idle_counted (network_of t) v (state_at t.labels t.engagers first t.told) idle)));
    }

pub opened_run : {S V : Type 0} (meaning : S → Algebra V) (t : CoreView S V) (a : S) (g : GraphData) (s : ℕ) → t.diffusion ≡ record { algebra = a; roads = g; source = s } →
    IsGraph g → HasVertex g s → state_of t ≡ opening (meaning a) (network g s) → IsRun meaning t
opened_run meaning t a g s p R v e = record {
  diffusion = subst IsDiffusion (sym p) (record { roads = R; source = v });
  reached = ([], e ∙ (λ i. opening (meaning (sym p i).algebra) (network_in (sym p i))));
}
