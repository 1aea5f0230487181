-- The tables keep their sizes, and the counters stay right, through each move.
use Rattle.scholten_core.proofs.Words.{◌≡◌, ◌≢◌, ℕ, suc, ◌+◌, ◌-◌, ◌<◌, ◌≤◌, ◌^◌, true, false, Option, List, length, get_or, set, sym, ap, ◌∙◌, subst, arith, length-set, get_or-set_same, get_or-set_other, Token, Idle, Held, is_idle, deficit, CoreView, state_of, network_of, AreTablesSized}
use Rattle.scholten_core.proofs.Written.{busy_within, reads}
use Rattle.scholten_core.proofs.Counted.{counted_same, counted_more, counted_less, deficit_least, deficit_most}

-- a token that is not idle is on one of the arcs
pub busy_arc : {S V : Type 0} (t : CoreView S V) (a : ℕ) → AreTablesSized t → is_idle ((state_of t).token a) ≡ false → a < suc (network_of t).arcs
busy_arc t a z b = let l = busy_within t.tokens a b in let n = z.tokens in omega (arith, l, n)

-- what a caller knows of the view holds of the tables
pub busy_seen : {S V : Type 0} (t old : CoreView S V) (a : ℕ) → t ≡ old → is_idle ((state_of old).token a) ≡ false → is_idle ((state_of t).token a) ≡ false
busy_seen t old a e b = ap (λ u. is_idle ((state_of u).token a)) e ∙ b

pub tail_seen : {S V : Type 0} (t old : CoreView S V) (a v : ℕ) → t ≡ old → v ≡ (network_of old).tail a → v ≡ (network_of t).tail a
tail_seen t old a v e h = h ∙ ap (λ u. (network_of u).tail a) (sym e)

pub vertex_seen : {S V : Type 0} (t old : CoreView S V) (v : ℕ) → t ≡ old → v ≤ old.diffusion.roads.vertices → v ≤ t.diffusion.roads.vertices
vertex_seen t old v e h = subst (λ u. v ≤ u.diffusion.roads.vertices) (sym e) h

pub idle_seen : {S V : Type 0} (t old : CoreView S V) (a : ℕ) → t ≡ old → is_idle ((state_of old).token a) ≡ true → is_idle ((state_of t).token a) ≡ true
idle_seen t old a e b = ap (λ u. is_idle ((state_of u).token a)) e ∙ b

pub tail_of_seen : {S V : Type 0} (t old : CoreView S V) (a v : ℕ) → t ≡ old → (network_of old).tail a ≡ v → (network_of t).tail a ≡ v
tail_of_seen t old a v e h = ap (λ u. (network_of u).tail a) e ∙ h

pub arc_seen : {S V : Type 0} (t old : CoreView S V) (a : ℕ) → t ≡ old → a ≤ length old.diffusion.roads.arcs → a ≤ length t.diffusion.roads.arcs
arc_seen t old a e h = subst (λ u. a ≤ length u.diffusion.roads.arcs) (sym e) h

tokens_else : {V : Type 0} (ts : List (Token V)) (i a : ℕ) (x : Token V) → i ≡ a → (b : ℕ) → b ≢ a → get_or (set ts i x) b Idle ≡ get_or ts b Idle
tokens_else ts i a x p b n = get_or-set_other ts i b x Idle (λ q. n (q ∙ p))

token_here : {V : Type 0} (ts : List (Token V)) (i a : ℕ) (x : Token V) → i ≡ a → a < length ts → get_or (set ts i x) a Idle ≡ x
token_here ts i a x p l = ap (λ k. get_or (set ts k x) a Idle) p ∙ get_or-set_same ts a x Idle l

-- a busy arc stays busy, whatever else is written
pub still_sized : {S V : Type 0} (t : CoreView S V) (labels told : List (Option V)) (engagers : List (Option ℕ)) (a i : ℕ) (x : Token V) → AreTablesSized t → i ≡ a →
    is_idle ((state_of t).token a) ≡ false → is_idle x ≡ false → length labels ≡ length t.labels → length engagers ≡ length t.engagers → length told ≡ length t.told →
    AreTablesSized (record t { labels = labels; engagers = engagers; tokens = set t.tokens i x; told = told })
still_sized t labels told engagers a i x z p b n l e d =
    let w = busy_arc t a z b in
    record {
      diffusion = z.diffusion;
      labels = l ∙ z.labels;
      engagers = e ∙ z.engagers;
      tokens = length-set t.tokens i x ∙ z.tokens;
      told = d ∙ z.told;
      deficits = z.deficits;
      counted = counted_same (network_of t) t.diffusion.roads.vertices t.deficits a (state_of t) (state_of (record t { tokens = set t.tokens i x })) w
          (tokens_else t.tokens i a x p)
          (ap is_idle (token_here t.tokens i a x p (busy_within t.tokens a b)) ∙ n ∙ sym b) z.counted;
    }

-- then the counter of its tail is not 0
pub freed_least : {S V : Type 0} (t : CoreView S V) (a v j y : ℕ) → AreTablesSized t → j ≡ v → v ≡ (network_of t).tail a → v ≤ t.diffusion.roads.vertices → is_idle ((state_of t).token a) ≡ false →
    y ≡ get_or t.deficits j y → 1 ≤ y
freed_least t a v j y z q h m b r =
    let least : 1 ≤ deficit (network_of t) ((network_of t).tail a) (state_of t) = deficit_least (network_of t) a (state_of t) (busy_arc t a z b) b in
    let k = z.counted v m in
    let d : deficit (network_of t) v (state_of t) ≡ deficit (network_of t) ((network_of t).tail a) (state_of t) = ap (λ u. deficit (network_of t) u (state_of t)) h in
    let long = z.deficits in
    let read = reads t.deficits j v y q (omega (arith, m, long)) r in omega (arith, k, d, least, read)

-- and every counter is small
pub counter_most : {S V : Type 0} (t : CoreView S V) (v j y : ℕ) → AreTablesSized t → j ≡ v → v ≤ t.diffusion.roads.vertices → y ≡ get_or t.deficits j y → y < 2 ^ 31
counter_most t v j y z q m r =
    let most = deficit_most (network_of t) v (state_of t) in
    let k = z.counted v m in
    let few = z.diffusion.roads.few_arcs in
    let long = z.deficits in
    let read = reads t.deficits j v y q (omega (arith, m, long)) r in omega (arith, k, most, few, read)

-- a busy arc becomes idle
pub freed_sized : {S V : Type 0} (t : CoreView S V) (a i v j x y : ℕ) → AreTablesSized t → i ≡ a → j ≡ v → v ≡ (network_of t).tail a → v ≤ t.diffusion.roads.vertices →
    is_idle ((state_of t).token a) ≡ false → y ≡ get_or t.deficits j y → x ≡ y - 1 → AreTablesSized (record t { tokens = set t.tokens i Idle; deficits = set t.deficits j x })
freed_sized t a i v j x y z p q h m b r e =
    let w = busy_arc t a z b in
    let least : 1 ≤ deficit (network_of t) ((network_of t).tail a) (state_of t) = deficit_least (network_of t) a (state_of t) w b in
    let k = z.counted v m in
    let d : deficit (network_of t) v (state_of t) ≡ deficit (network_of t) ((network_of t).tail a) (state_of t) = ap (λ u. deficit (network_of t) u (state_of t)) h in
    let long = z.deficits in
    let same : get_or t.deficits v 0 ≡ get_or t.deficits ((network_of t).tail a) 0 = ap (λ u. get_or t.deficits u 0) h in
    record {
      diffusion = z.diffusion;
      labels = z.labels;
      engagers = z.engagers;
      tokens = length-set t.tokens i Idle ∙ z.tokens;
      told = z.told;
      deficits = length-set t.deficits j x ∙ z.deficits;
      counted = subst (λ u. (r : ℕ) → r ≤ t.diffusion.roads.vertices → get_or (set t.deficits u x) r 0 ≡ deficit (network_of t) r (state_of (record t { tokens = set t.tokens i Idle }))) (sym (q ∙ h))
          (counted_less (network_of t) t.diffusion.roads.vertices t.deficits a x (state_of t) (state_of (record t { tokens = set t.tokens i Idle })) w
          (tokens_else t.tokens i a Idle p) b (ap is_idle (token_here t.tokens i a Idle p (busy_within t.tokens a b)))
          (omega (arith, h, m, long)) (let read = reads t.deficits j v y q (omega (arith, m, long)) r in omega (arith, e, k, d, least, same, read)) z.counted);
    }

-- an idle arc out of v gets a message, and its offer is recorded
pub sent_sized : {S V : Type 0} (t : CoreView S V) (a i i2 v j x y : ℕ) (token : Token V) (label : Option V) → AreTablesSized t → i ≡ a → j ≡ v
    → (network_of t).tail a ≡ v → v ≤ t.diffusion.roads.vertices → a ≤ length t.diffusion.roads.arcs →
    is_idle ((state_of t).token a) ≡ true → is_idle token ≡ false → y ≡ get_or t.deficits j y → x ≡ y + 1
    → AreTablesSized (record t { tokens = set t.tokens i token; told = set t.told i2 label; deficits = set t.deficits j x })
sent_sized t a i i2 v j x y token label z p q h m w b n r e =
    let long = z.deficits in
    let wide = z.tokens in
    let same : get_or t.deficits v 0 ≡ get_or t.deficits ((network_of t).tail a) 0 = ap (λ u. get_or t.deficits u 0) (sym h) in
    record {
      diffusion = z.diffusion;
      labels = z.labels;
      engagers = z.engagers;
      tokens = length-set t.tokens i token ∙ z.tokens;
      told = length-set t.told i2 label ∙ z.told;
      deficits = length-set t.deficits j x ∙ z.deficits;
      counted = subst (λ u. (r : ℕ) → r ≤ t.diffusion.roads.vertices
          → get_or (set t.deficits u x) r 0 ≡ deficit (network_of t) r (state_of (record t { tokens = set t.tokens i token }))) (sym (q ∙ sym h))
          (counted_more (network_of t) t.diffusion.roads.vertices t.deficits a x (state_of t) (state_of (record t { tokens = set t.tokens i token })) (omega (arith, w))
          (tokens_else t.tokens i a token p) b (ap is_idle (token_here t.tokens i a token p (omega (arith, w, wide))) ∙ n)
          (omega (arith, h, m, long)) (let read = reads t.deficits j v y q (omega (arith, m, long)) r in omega (arith, e, same, read)) z.counted);
    }

-- places in the tables
pub label_place : {S V : Type 0} (t old : CoreView S V) (v : ℕ) → t ≡ old → AreTablesSized t → v ≤ old.diffusion.roads.vertices → v < length t.labels
label_place t old v e z h = let m = vertex_seen t old v e h in let l = z.labels in omega (arith, m, l)

pub engager_place : {S V : Type 0} (t old : CoreView S V) (v : ℕ) → t ≡ old → AreTablesSized t → v ≤ old.diffusion.roads.vertices → v < length t.engagers
engager_place t old v e z h = let m = vertex_seen t old v e h in let l = z.engagers in omega (arith, m, l)

pub token_place : {S V : Type 0} (t old : CoreView S V) (a : ℕ) → t ≡ old → AreTablesSized t → a ≤ length old.diffusion.roads.arcs → a < length t.tokens
token_place t old a e z h = let m = arc_seen t old a e h in let l = z.tokens in omega (arith, m, l)

pub told_place : {S V : Type 0} (t old : CoreView S V) (a : ℕ) → t ≡ old → AreTablesSized t → a ≤ length old.diffusion.roads.arcs → a < length t.told
told_place t old a e z h = let m = arc_seen t old a e h in let l = z.told in omega (arith, m, l)

pub held_place : {S V : Type 0} (t old : CoreView S V) (e i : ℕ) → t ≡ old → i ≡ e → (state_of old).token e ≡ Held → i < length t.tokens
held_place t old e i q p h = let w = busy_within t.tokens e (busy_seen t old e q (ap is_idle h)) in omega (arith, w, p)
