-- A write to a table changes the state's function at one place.
use Rattle.scholten_core.proofs.Words.{◌≡◌, ℕ, ◌<◌, Bool, true, false, not, ◌&&◌, eq-eqb, Option, Some, None, List, length, get_or, set, refl, sym, ap, ◌∙◌, inl, inr, get_or-set_same, get_or-set_other, cases_eq, cases_lt, cond-true, cond-false, get_or_past, get_or_default, Algebra, Token, Idle, Message, Signal, Network, CoreState, is_due, is_idle, same_label, sent, extend_label, put, freed, arrive, better_of, engaged_by, answer_to, pump_one, released, rest, out_idle, CoreView, state_of}
use Rattle.scholten_core.proofs.Basics.{put-at, put-other, idle-true, put_set, same_function}

pub answered_busy : {V : Type 0} (o : Option ℕ) (t : Token V) → t ≡ answer_to o → is_idle t ≡ false
answered_busy None t e = ap is_idle e
answered_busy (Some a) t e = ap is_idle e

-- a token that is not idle is in the table
pub busy_within : {V : Type 0} (ts : List (Token V)) (a : ℕ) → is_idle (get_or ts a Idle) ≡ false → a < length ts
busy_within ts a i = elim (cases_lt a (length ts)) [ inl l ↦ l | inr l ↦ absurd (let z = ap is_idle (get_or_past ts a Idle l) in cc) ]

put-self : {X : Type 0} (f : ℕ → X) (k : ℕ) → f ≡ put f k (f k)
put-self f k = same_function f (put f k (f k)) (λ j. elim (cases_eq j k) [ inl e ↦ ap f e ∙ sym (put-at f k (f k) j e) | inr n ↦ sym (put-other f k (f k) j n) ])

-- what the code reads at an index, against the function
pub reads : (xs : List ℕ) (j v y : ℕ) → j ≡ v → v < length xs → y ≡ get_or xs j y → y ≡ get_or xs v 0
reads xs j v y p l e = e ∙ ap (λ k. get_or xs k y) p ∙ get_or_default xs v y 0 l

-- the tables with a token written
pub token_written : {S V : Type 0} (t : CoreView S V) (a : ℕ) (x : Token V) → a < length t.tokens →
    state_of (record t { tokens = set t.tokens a x }) ≡ record (state_of t) { token = put (state_of t).token a x }
token_written t a x l = ap (λ f. record (state_of t) { token = f }) (put_set t.tokens a x Idle l)

module _ {V : Type 0} (A : Algebra V) (N : Network) where
  pub busy_leaves : (v : ℕ) (c : CoreState V) → out_idle A N v c ≡ false → c ≡ rest A N v c
  busy_leaves v c out = go (c.engager v) ∙ ap (λ b. released A N v c (c.engager v) b) (sym out)
    where
      go : (o : Option ℕ) → c ≡ released A N v c o false
      go None = refl
      go (Some e) = refl

  pub due_reads : (c : CoreState V) (v b : ℕ) → N.tail b ≡ v → is_due A N v c b ≡ (is_idle (c.token b) && not (same_label A (c.told b) (c.label v)))
  unfolding is_due
  due_reads c v b e = ap (λ t. t && is_idle (c.token b) && not (same_label A (c.told b) (c.label v))) (eq-eqb (N.tail b) v e)

  -- the test in code
  pub due_then : (c : CoreState V) (v b : ℕ) (same : Bool) → N.tail b ≡ v → is_idle (c.token b) ≡ true → same ≡ same_label A (c.told b) (c.label v) → not same ≡ is_due A N v c b
  due_then c v b same e i s = ap not s ∙ (λ k. sym i k && not (same_label A (c.told b) (c.label v))) ∙ sym (due_reads c v b e)

  pub due_else : (c : CoreState V) (v b : ℕ) → N.tail b ≡ v → is_idle (c.token b) ≡ false → false ≡ is_due A N v c b
  due_else c v b e i = (λ k. sym i k && not (same_label A (c.told b) (c.label v))) ∙ sym (due_reads c v b e)

  pub not_due_leaves : (c : CoreState V) (v b : ℕ) → is_due A N v c b ≡ false → c ≡ pump_one A N v b c
  not_due_leaves c v b q =
      (λ i. record { label = c.label; engager = c.engager; token = put-self c.token b i; told = put-self c.told b i })
      ∙ (λ i. record {
        label = c.label;
        engager = c.engager;
        token = put c.token b (sym (cond-false (is_due A N v c b) (sent (extend_label A (c.label v) (N.weight b))) (c.token b) q) i);
        told = put c.told b (sym (cond-false (is_due A N v c b) (c.label v) (c.told b) q) i);
      })

module _ {S V : Type 0} (A : Algebra V) (N : Network) where
  -- t is what the tables hold, old what a caller sees, i and j the indices that the code uses
  pub free_leaves : (t old : CoreView S V) (a i : ℕ) → t ≡ old → i ≡ a → is_idle ((state_of old).token a) ≡ false →
      state_of (record t { tokens = set t.tokens i Idle }) ≡ freed A N a (state_of old)
  free_leaves t old a i e p b =
      let l : a < length t.tokens = busy_within t.tokens a (ap (λ u. is_idle ((state_of u).token a)) e ∙ b) in
      ap (λ k. state_of (record t { tokens = set t.tokens k Idle })) p ∙ token_written t a Idle l ∙ ap (λ u. freed A N a (state_of u)) e

  pub arrive_leaves : (t old : CoreView S V) (a v i j : ℕ) (x : V) (label : Option V) (engager : Option ℕ) (token : Token V) → t ≡ old → i ≡ a → j ≡ v → is_idle ((state_of old).token a) ≡ false →
      v < length t.labels → v < length t.engagers → v ≡ N.head a →
      label ≡ better_of A x ((state_of old).label v) → engager ≡ engaged_by ((state_of old).engager v) a → token ≡ answer_to ((state_of old).engager v) →
      state_of (record t { labels = set t.labels j label; engagers = set t.engagers j engager; tokens = set t.tokens i token }) ≡ arrive A N a x (state_of old)
  arrive_leaves t old a v i j x label engager token e p q b l m h x1 x2 x3 =
      let w : a < length t.tokens = busy_within t.tokens a (ap (λ u. is_idle ((state_of u).token a)) e ∙ b) in
      (λ k. state_of (record t { labels = set t.labels (q k) label; engagers = set t.engagers (q k) engager; tokens = set t.tokens (p k) token }))
      ∙ (λ k. record { label = put_set t.labels v label None l k; engager = put_set t.engagers v engager None m k; token = put_set t.tokens a token Idle w k; told = (state_of t).told })
      ∙ (λ k. record {
        label = put (state_of (e k)).label (h k) (x1 k);
        engager = put (state_of (e k)).engager (h k) (x2 k);
        token = put (state_of (e k)).token a (x3 k);
        told = (state_of (e k)).told;
      })
      ∙ ap (λ w. record {
        label = put (state_of old).label (N.head a) (better_of A x ((state_of old).label w));
        engager = put (state_of old).engager (N.head a) (engaged_by ((state_of old).engager w) a);
        token = put (state_of old).token a (answer_to ((state_of old).engager w));
        told = (state_of old).told;
      }) h

  pub rest_leaves : (t old : CoreView S V) (v e i j : ℕ) → t ≡ old → i ≡ e → j ≡ v → v < length t.engagers →
      (state_of old).engager v ≡ Some e → is_idle ((state_of old).token e) ≡ false → out_idle A N v (state_of old) ≡ true →
      state_of (record t { tokens = set t.tokens i Signal; engagers = set t.engagers j None }) ≡ rest A N v (state_of old)
  rest_leaves t old v e i j q p r l en b out =
      let w : e < length t.tokens = busy_within t.tokens e (ap (λ u. is_idle ((state_of u).token e)) q ∙ b) in
      (λ k. state_of (record t { tokens = set t.tokens (p k) Signal; engagers = set t.engagers (r k) None }))
      ∙ (λ k. record { label = (state_of t).label; engager = put_set t.engagers v None None l k; token = put_set t.tokens e Signal Idle w k; told = (state_of t).told })
      ∙ ap (λ u. record { label = (state_of u).label; engager = put (state_of u).engager v None; token = put (state_of u).token e Signal; told = (state_of u).told }) q
      ∙ (λ k. released A N v (state_of old) (sym en k) (sym out k))

  -- a due arc is offered the label, and sent what the extension gives
  pub offer_leaves : (t old : CoreView S V) (v b i j : ℕ) (label : Option V) (y : V) → t ≡ old → i ≡ b → j ≡ b → b < length t.tokens → b < length t.told →
      is_due A N v (state_of old) b ≡ true → label ≡ (state_of old).label v → Some y ≡ extend_label A label (N.weight b) →
      state_of (record t { tokens = set t.tokens i (Message y); told = set t.told j label }) ≡ pump_one A N v b (state_of old)
  offer_leaves t old v b i j label y e p r l m due x1 x2 =
      (λ k. state_of (record t { tokens = set t.tokens (p k) (Message y); told = set t.told (r k) label }))
      ∙ (λ k. record { label = (state_of t).label; engager = (state_of t).engager; token = put_set t.tokens b (Message y) Idle l k; told = put_set t.told b label None m k })
      ∙ (λ k. record { label = (state_of (e k)).label; engager = (state_of (e k)).engager; token = put (state_of (e k)).token b (sent (x2 k)); told = put (state_of (e k)).told b (x1 k) })
      ∙ due_told t old v b label due x1
    where
      due_told : (t old : CoreView S V) (v b : ℕ) (label : Option V) → is_due A N v (state_of old) b ≡ true → label ≡ (state_of old).label v →
          record {
            label = (state_of old).label;
            engager = (state_of old).engager;
            token = put (state_of old).token b (sent (extend_label A label (N.weight b)));
            told = put (state_of old).told b ((state_of old).label v);
          } ≡ pump_one A N v b (state_of old)
      due_told t old v b label due x1 = (λ k. record {
        label = (state_of old).label;
        engager = (state_of old).engager;
        token = put (state_of old).token b ((ap (λ o. sent (extend_label A o (N.weight b))) x1
            ∙ sym (cond-true (is_due A N v (state_of old) b) (sent (extend_label A ((state_of old).label v) (N.weight b)))
            ((state_of old).token b) due)) k);
        told = put (state_of old).told b (sym (cond-true (is_due A N v (state_of old) b) ((state_of old).label v) ((state_of old).told b) due) k);
      })

  -- a due arc is offered the label, though the extension is refused
  pub refuse_leaves : (t old : CoreView S V) (v b j : ℕ) (label : Option V) → t ≡ old → j ≡ b → b < length t.told →
      is_due A N v (state_of old) b ≡ true → is_idle ((state_of old).token b) ≡ true → label ≡ (state_of old).label v → None ≡ extend_label A label (N.weight b) →
      state_of (record t { told = set t.told j label }) ≡ pump_one A N v b (state_of old)
  refuse_leaves t old v b j label e r m due idle x1 x2 =
      (λ k. state_of (record t { told = set t.told (r k) label }))
      ∙ (λ k. record { label = (state_of t).label; engager = (state_of t).engager; token = put-self (state_of t).token b k; told = put_set t.told b label None m k })
      ∙ (λ k. record { label = (state_of (e k)).label; engager = (state_of (e k)).engager; token = put (state_of (e k)).token b ((state_of (e k)).token b); told = put (state_of (e k)).told b (x1 k) })
      ∙ (λ k. record {
        label = (state_of old).label;
        engager = (state_of old).engager;
        token = put (state_of old).token b ((idle-true ((state_of old).token b) idle ∙ ap sent x2 ∙ ap (λ o. sent (extend_label A o (N.weight b))) x1
            ∙ sym (cond-true (is_due A N v (state_of old) b) (sent (extend_label A ((state_of old).label v) (N.weight b)))
            ((state_of old).token b) due)) k);
        told = put (state_of old).told b (sym (cond-true (is_due A N v (state_of old) b) ((state_of old).label v) ((state_of old).told b) due) k);
      })
