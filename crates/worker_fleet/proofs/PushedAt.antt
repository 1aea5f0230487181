-- One more thing at the back of one list of many, while things are dealt and put together.
use Rattle.worker_fleet.proofs.Words.{◌≡◌, ◌≢◌, ℕ, ◌<◌, suc, List, [], ◌∷◌, ◌++◌, length, get_or, set, refl, ap, append_assoc, add-one, arith, inl, inr, true, false, if◌then◌else◌, nat_eq, Vec, ◌+◌, cases_eq, common_steps, nil_from_length, Dealing}
use Rattle.worker_fleet.specs.Dealt.{begins_at, following, dealt, share_of, of_group, PushesAt}

module _ {X Z : Type 0} (i : ℕ) (x : X) (old new : List (Vec X Z)) (low : i < length old) (p : PushesAt i x old new) where
  pub pushed_here : (d : Vec X Z) → (get_or new i d).items ≡ (get_or old i d).items ++ x ∷ []
  pushed_here d =
      let at : get_or (set old i p.list) i d ≡ p.list = grind (arith, common_steps) in
      rw (p.set_there, at) (p.pushed d)

  pub pushed_there : (w : ℕ) (d : Vec X Z) → w ≢ i → get_or new w d ≡ get_or old w d
  pushed_there w d ne =
      let at : get_or (set old i p.list) w d ≡ get_or old w d = grind (arith, common_steps) in
      rw p.set_there at

  -- Each list followed by what is still to come of it stays the same: the first of what was still
  -- to come went to the back of its list.
  pub push_keeps : (w : ℕ) (d : Vec X Z) (rest : List X) → (get_or new w d).items ++ rest ≡ (get_or old w d).items ++ (if nat_eq i w then x ∷ rest else rest)
  push_keeps w d rest = elim (cases_eq w i) as (λ _. (get_or new w d).items ++ rest ≡ (get_or old w d).items ++ (if nat_eq i w then x ∷ rest else rest)) [
    | inl e ↦
        let yes : nat_eq i w ≡ true = grind (arith, common_steps) in
        rw (yes, e, pushed_here d) (append_assoc (get_or old i d).items (x ∷ []) rest)
    | inr ne ↦
        let no : nat_eq i w ≡ false = grind (arith, common_steps) in
        rw (no, pushed_there w d ne) refl
  ]

module _ {X Z : Type 0} where
  -- a thing more is dealt
  pub deal_step : (n w at group : ℕ) (x : X) (all rest : List X) (old new : List (Vec (ℕ × X) Z)) (d : Vec (ℕ × X) Z) → at < length old → PushesAt at (group, x) old new → all ≡ x ∷ rest
      → (get_or new w d).items ++ dealt n w (following n at) group rest ≡ (get_or old w d).items ++ dealt n w at group all
  unfolding dealt
  deal_step n w at group x all rest old new d low put e = rw e (push_keeps at (group, x) old new low put w d (dealt n w (following n at) group rest))

  pub share_none : (rule : Dealing) (n w first : ℕ) (rest : List (Vec X Z)) → length rest ≡ 0 → share_of rule n w first rest ≡ []
  unfolding share_of
  share_none rule n w first rest e = ap (share_of rule n w first) (nil_from_length rest e)

  -- a group more is dealt
  pub deal_more : (rule : Dealing) (n w group : ℕ) (things : Vec X Z) (all rest : List (Vec X Z)) (before after : List (ℕ × X)) → all ≡ things ∷ rest → after ≡ before ++ dealt n w (begins_at rule n group) group things.items
      → after ++ share_of rule n w (group + 1) rest ≡ before ++ share_of rule n w group all
  unfolding share_of
  deal_more rule n w group things all rest before after e pushed = rw (e, pushed, add-one) (append_assoc before (dealt n w (begins_at rule n group) group things.items) (share_of rule n w (suc group) rest))

  -- a thing more is put to its group
  pub put_step : (q group : ℕ) (x : X) (all rest : List (ℕ × X)) (old new : List (Vec X Z)) (d : Vec X Z) → group < length old → PushesAt group x old new → all ≡ (group, x) ∷ rest
      → (get_or new q d).items ++ of_group q rest ≡ (get_or old q d).items ++ of_group q all
  unfolding of_group
  put_step q group x all rest old new d low put e = rw e (push_keeps group x old new low put q d (of_group q rest))

pub dealt_none : {X : Type 0} (n w at group : ℕ) (rest : List X) → length rest ≡ 0 → dealt n w at group rest ≡ []
unfolding dealt
dealt_none n w at group rest e = ap (dealt n w at group) (nil_from_length rest e)

pub put_none : {X : Type 0} (q : ℕ) (rest : List (ℕ × X)) → length rest ≡ 0 → of_group q rest ≡ []
unfolding of_group
put_none q rest e = ap (of_group q) (nil_from_length rest e)
