-- An event at a vertex of one shard: it depends on that shard's share alone, and leaves the other
-- shares as they are.
use Rattle.scholten_core.proofs.Words.{◌≡◌, ◌≢◌, ℕ, zero, suc, Bool, true, false, not, ◌&&◌, ◌||◌, eqb, eqb-true, Option, Some, None, refl, sym, ap, ◌∙◌, subst, inl, inr, cases_eq, cases_Bool, cond-true, cond-false, false≢true, Token, Idle, Message, Held, Signal, Deliver, Accept, Algebra, IsLawful, Network, WellFormed, CoreState, put, is_idle, all_below, is_due, out_idle, same_label, pump, arrive, released, freed, settle, settle_tail, delivered, accepted, step, sent, extend_label, better_of, engaged_by, answer_to, Agree, put_tells, put-at, put-other, not_due}
use Rattle.scholten_core.proofs.CoreInvariant.{CoreInvariant}
use Rattle.scholten_core.proofs.StepCases.{head_pumped, tail_pumped}

module _ {V : Type 0} (A : Algebra V) (N : Network) where
  pub agree_then : (mine : ℕ → Bool) (c d e : CoreState V) → Agree A N mine c d → Agree A N mine d e → Agree A N mine c e
  agree_then mine c d e p q = record {
    label = λ v m. q.label v m ∙ p.label v m;
    engager = λ v m. q.engager v m ∙ p.engager v m;
    told = λ b m. q.told b m ∙ p.told b m;
    idle = λ b m. q.idle b m ∙ p.idle b m;
  }

  pub agree_self : (mine : ℕ → Bool) (c : CoreState V) → Agree A N mine c c
  agree_self mine c = record { label = λ v m. refl; engager = λ v m. refl; told = λ b m. refl; idle = λ b m. refl }

  -- locality

  put_agree : {X : Type 0} (f g : ℕ → X) (k : ℕ) (x y : X) (j : ℕ) → x ≡ y → (j ≢ k → f j ≡ g j) → put f k x j ≡ put g k y j
  put_agree f g k x y j e h = elim (cases_eq j k) [
    | inl q ↦ put-at f k x j q ∙ e ∙ sym (put-at g k y j q)
    | inr n ↦ put-other f k x j n ∙ h n ∙ sym (put-other g k y j n)
  ]

  put_idle_agree : (f g : ℕ → Token V) (k : ℕ) (x y : Token V) (j : ℕ) → is_idle x ≡ is_idle y → (j ≢ k → is_idle (f j) ≡ is_idle (g j)) → is_idle (put f k x j) ≡ is_idle (put g k y j)
  put_idle_agree f g k x y j e h = elim (cases_eq j k) [
    | inl q ↦ ap is_idle (put-at f k x j q) ∙ e ∙ ap is_idle (sym (put-at g k y j q))
    | inr n ↦ ap is_idle (put-other f k x j n) ∙ h n ∙ ap is_idle (sym (put-other g k y j n))
  ]

  pub arrive_agree : (mine : ℕ → Bool) (a : ℕ) (x : V) (c d : CoreState V) → mine (N.head a) ≡ true → Agree A N mine c d → Agree A N mine (arrive A N a x c) (arrive A N a x d)
  arrive_agree mine a x c d m G = record {
    label = λ v h. put_agree d.label c.label (N.head a) _ _ v (ap (better_of A x) (G.label (N.head a) m)) (λ _. G.label v h);
    engager = λ v h. put_agree d.engager c.engager (N.head a) _ _ v (ap (λ o. engaged_by o a) (G.engager (N.head a) m)) (λ _. G.engager v h);
    told = G.told;
    idle = λ b h. put_idle_agree d.token c.token a _ _ b (ap (λ o. is_idle {V = V} (answer_to o)) (G.engager (N.head a) m)) (λ _. G.idle b h);
  }

  pub due_agree : (mine : ℕ → Bool) (v : ℕ) (c d : CoreState V) (b : ℕ) → mine v ≡ true → mine (N.tail b) ≡ true → Agree A N mine c d → is_due A N v d b ≡ is_due A N v c b
  unfolding is_due
  due_agree mine v c d b m h G = λ i. eqb (N.tail b) v && G.idle b h i && not (same_label A (G.told b h i) (G.label v m i))

  pub pump_agree : (mine : ℕ → Bool) (v : ℕ) (c d : CoreState V) → mine v ≡ true → Agree A N mine c d → Agree A N mine (pump A N v c) (pump A N v d)
  pump_agree mine v c d m G = record {
    label = G.label;
    engager = G.engager;
    told = λ b h. elim (cases_Bool (is_due A N v c b)) [
      | inl t ↦ cond-true _ _ _ (due_agree mine v c d b m h G ∙ t) ∙ G.label v m ∙ sym (cond-true _ _ _ t)
      | inr f ↦ cond-false _ _ _ (due_agree mine v c d b m h G ∙ f) ∙ G.told b h ∙ sym (cond-false _ _ _ f)
    ];
    idle = λ b h. elim (cases_Bool (is_due A N v c b)) [
      | inl t ↦ ap is_idle (cond-true _ _ _ (due_agree mine v c d b m h G ∙ t) ∙ ap (λ o. sent (extend_label A o (N.weight b))) (G.label v m) ∙ sym (cond-true _ _ _ t))
      | inr f ↦ ap is_idle (cond-false _ _ _ (due_agree mine v c d b m h G ∙ f)) ∙ G.idle b h ∙ ap is_idle (sym (cond-false _ _ _ f))
    ];
  }

  all_below-same : (p q : ℕ → Bool) (n : ℕ) → ((k : ℕ) → p k ≡ q k) → all_below p n ≡ all_below q n
  all_below-same p q zero h = refl
  all_below-same p q (suc n) h = λ i. h n i && all_below-same p q n h i

  pub out_idle_agree : (mine : ℕ → Bool) (v : ℕ) (c d : CoreState V) → mine v ≡ true → Agree A N mine c d → out_idle A N v d ≡ out_idle A N v c
  unfolding out_idle
  out_idle_agree mine v c d m G = all_below-same (λ b. not (eqb (N.tail b) v) || is_idle (d.token b)) (λ b. not (eqb (N.tail b) v) || is_idle (c.token b)) (suc N.arcs)
      (λ b. elim (cases_Bool (eqb (N.tail b) v)) [
        | inl t ↦ ap (λ s. not (eqb (N.tail b) v) || s) (G.idle b (ap mine (eqb-true (N.tail b) v t) ∙ m))
        | inr f ↦ (λ i. not (f i) || is_idle (d.token b)) ∙ (λ i. not (sym f i) || is_idle (c.token b))
      ])

  pub freed_agree : (mine : ℕ → Bool) (a : ℕ) (c d : CoreState V) → Agree A N mine c d → Agree A N mine (freed A N a c) (freed A N a d)
  freed_agree mine a c d G = record {
    label = G.label;
    engager = G.engager;
    told = G.told;
    idle = λ b h. put_idle_agree d.token c.token a Idle Idle b refl (λ _. G.idle b h);
  }

  -- frame

  apart : (other : ℕ → Bool) (u v : ℕ) → other v ≡ false → other u ≡ true → u ≢ v
  apart other u v f t e = false≢true (sym f ∙ ap other (sym e) ∙ t)

  arrive_frame : (other : ℕ → Bool) (a : ℕ) (x : V) (c : CoreState V) → other (N.head a) ≡ false → c.token a ≡ Message x → Agree A N other c (arrive A N a x c)
  arrive_frame other a x c f q = record {
    label = λ u h. put-other c.label (N.head a) _ u (apart other u (N.head a) f h);
    engager = λ u h. put-other c.engager (N.head a) _ u (apart other u (N.head a) f h);
    told = λ b h. refl;
    idle = λ b h. elim (put_tells c.token a (answer_to (c.engager (N.head a))) b) [
      | inl k ↦ ap is_idle k.1 ∙ busy (c.engager (N.head a)) ∙ ap is_idle (sym q) ∙ ap (λ j. is_idle (c.token j)) (sym k.0)
      | inr k ↦ ap is_idle k.1
    ];
  }
    where
      busy : (o : Option ℕ) → is_idle {V = V} (answer_to o) ≡ false
      busy None = refl
      busy (Some e) = refl

  pump_frame : (other : ℕ → Bool) (v : ℕ) (c : CoreState V) → other v ≡ false → Agree A N other c (pump A N v c)
  pump_frame other v c f = record {
    label = λ u h. refl;
    engager = λ u h. refl;
    told = λ b h. cond-false _ _ _ (not_due A N v c b (apart other (N.tail b) v f h));
    idle = λ b h. ap is_idle (cond-false _ _ _ (not_due A N v c b (apart other (N.tail b) v f h)));
  }

  released_frame : (other : ℕ → Bool) (v : ℕ) (c : CoreState V) (o : Option ℕ) (t : Bool) → other v ≡ false → ((e : ℕ) → o ≡ Some e → c.token e ≡ Held) → Agree A N other c (released A N v c o t)
  released_frame other v c None t f h = agree_self other c
  released_frame other v c (Some e) false f h = agree_self other c
  released_frame other v c (Some e) true f h = record {
    label = λ u k. refl;
    engager = λ u k. put-other c.engager v None u (apart other u v f k);
    told = λ b k. refl;
    idle = λ b k. elim (put_tells c.token e Signal b) [
      | inl j ↦ ap is_idle j.1 ∙ ap is_idle (sym (h e refl)) ∙ ap (λ i. is_idle (c.token i)) (sym j.0)
      | inr j ↦ ap is_idle j.1
    ];
  }

  settle_frame : (other : ℕ → Bool) (v : ℕ) (c : CoreState V) → other v ≡ false → CoreInvariant A N 0 (pump A N v c) → Agree A N other c (settle A N v c)
  settle_frame other v c f K = agree_then other c (pump A N v c) (settle A N v c) (pump_frame other v c f)
      (released_frame other v (pump A N v c) (c.engager v) (out_idle A N v (pump A N v c)) f (λ a q. (K.engager_held v a q).0))

  -- a delivery at v leaves every other shard's share
  pub message_frame : IsLawful A → WellFormed N → (other : ℕ → Bool) (a : ℕ) (x : V) (c : CoreState V) → other (N.head a) ≡ false
      → c.token a ≡ Message x → CoreInvariant A N 0 c → Agree A N other c (step A N c (Deliver a))
  message_frame L W other a x c f q K = subst (λ t. Agree A N other c (delivered A N a c t)) (sym q)
      (agree_then other c (arrive A N a x c) (settle A N (N.head a) (arrive A N a x c)) (arrive_frame other a x c f q)
      (settle_frame other (N.head a) (arrive A N a x c) f (head_pumped A N L W a x c q K)))

  freed_frame : (other : ℕ → Bool) (a : ℕ) (c : CoreState V) → other (N.tail a) ≡ false → Agree A N other c (freed A N a c)
  freed_frame other a c f = record {
    label = λ u h. refl;
    engager = λ u h. refl;
    told = λ b h. refl;
    idle = λ b h. ap is_idle (put-other c.token a Idle b (λ e. apart other (N.tail b) (N.tail a) f h (ap N.tail e)));
  }

  -- an acceptance on an arc out of v, likewise
  pub signal_frame : IsLawful A → WellFormed N → (other : ℕ → Bool) (a : ℕ) (c : CoreState V) → other (N.tail a) ≡ false → c.token a ≡ Signal → CoreInvariant A N 0 c → Agree A N other c (step A N c (Accept a))
  signal_frame L W other a c f q K = subst (λ t. Agree A N other c (accepted A N a c t)) (sym q) (by_arc a f q)
    where
      by_arc : (b : ℕ) → other (N.tail b) ≡ false → c.token b ≡ Signal → Agree A N other c (settle_tail A N b (N.tail b) (freed A N b c))
      by_arc zero g r = freed_frame other 0 c g
      by_arc (suc k) g r = agree_then other c (freed A N (suc k) c) (settle A N (N.tail (suc k)) (freed A N (suc k) c)) (freed_frame other (suc k) c g)
          (settle_frame other (N.tail (suc k)) (freed A N (suc k) c) g (tail_pumped A N L W k c r K))
