use Rattle.path_factors.proofs.Words.{◌≡◌, ℕ, ◌-◌, ◌<◌, ◌≤◌, ◌∙◌, inl, inr, List, [], ◌∷◌, ◌++◌, length, get_or, ap, sym, subst, arith, All, Contains, common_steps, get_or_default, All-get_or, All-push, Contains-append_left, Contains-push, Item, ChainData, item_of, AreChains, HasFrom}
use Rattle.path_factors.proofs.Listing.{from_next, from_none}
use Rattle.path_factors.proofs.chains.Chains.read.Goals as goal

pub loop-item-preserved : goal.loop-item-preserved
loop-item-preserved c =
    let lists = c.args.self.now in
    let i = c.loop-item.item in
    let R = c.index-in-loop-item.result.now in
    let old = c.loop-item.into.items in
    let some : 1 ≤ i = omega (arith, c.loop-item-test.true) in
    let lt : i - 1 < length lists.items = omega (arith, c.loop-item.invariant.inside, c.loop-item-test.true) in
    let same : c.self.inside.items.items ≡ lists.items = λ j. (c.self.view_is j).items in
    let read : R ≡ item_of lists.items i =
    c.index-in-loop-item.ensures ∙ ap (λ (l : List Item). get_or l (i - 1) R) same ∙ get_or_default lists.items (i - 1) R (record { value = 0; next = 0 }) lt in
    let are : AreChains lists = subst (λ (d : ChainData). AreChains d) c.self.view_is c.self.invariant in
    let value : (item_of lists.items i).value ≡ R.value = ap (λ (q : Item). q.value) (sym read) in
    let next : (item_of lists.items i).next ≡ R.next = ap (λ (q : Item). q.next) (sym read) in
    let pushed : c.push.new.self.items ≡ old ++ R.value ∷ [] = grind (arith, common_steps) in
    record {
      inside = let less = are.falling i some in omega (arith, less, next, c.loop-item.invariant.inside);
      has = λ x h. elim (c.loop-item.invariant.has x h) [
        | inl from ↦ elim (from_next lists.items i x from) [
          | inl is ↦
              inr (subst (λ (l : List ℕ). Contains l x) (sym pushed) (subst (λ (y : ℕ). Contains (old ++ R.value ∷ []) y) (sym value ∙ is) (Contains-push old R.value)))
          | inr rest ↦ inl (subst (λ (k : ℕ). HasFrom lists.items k x) next rest)
        ]
        | inr done ↦ inr (subst (λ (l : List ℕ). Contains l x) (sym pushed) (Contains-append_left old (R.value ∷ []) x done))
      ];
      below = λ n all before.
          let small = All-get_or (λ (q : Item). q.value < n) lists.items (i - 1) (record { value = 0; next = 0 }) lt all in
          subst (λ (l : List ℕ). All (λ (x : ℕ). x < n) l) (sym pushed)
          (All-push (λ (x : ℕ). x < n) old R.value (c.loop-item.invariant.below n all before) (omega (arith, small, value)));
    }

pub returns-clause-has : goal.returns-clause-has
returns-clause-has c = λ x h. elim (c.loop-item.invariant.has x h) [
  | inl from ↦ absurd (from_none c.args.self.now.items c.loop-item.item x (omega (arith, c.loop-item-test.false)) from)
  | inr done ↦ done
]
