-- The vertices that wait when a search gives up: they are settled and listed as they are.
use Rattle.tree_search.proofs.Words.{◌≡◌, ℕ, ◌-◌, inl, inr, Bool, true, false, List, ◌∷◌, [], ◌++◌, length, get_or, set, sym, ◌∙◌, subst, arith, Some, None, get_or-set_other, Contains-append_left, Contains-push, Contains-push_cases, Contains, GraphData, HasVertex, Algebra, label_of, AnswersBestOpen, AreNoted, by_number, keys_in, key_of, SearchState, AreSettledOn, Forgoes, is_end, listed_after, Mark, Step, Settled, Dropped, Ended}
use Rattle.std.proofs.lemmas.Bool.{cases_eq, cases_lt, cases_Bool}
use Rattle.std.proofs.lemmas.List.{get_or_past}
use Rattle.tree_search.proofs.Reading.{is_some, read}

module _ {C V : Type 0} (order : V → V → Bool) (A : Algebra V) (g : GraphData) (old new : SearchState C V) (in_graph : old.roads ≡ g) (list : List ℕ) (listed : AreSettledOn g old.settled list) where
  -- one more is settled, and listed
  settled_next : (v : ℕ) → HasVertex old.roads v → new.settled ≡ set old.settled (v - 1) true → AreSettledOn g new.settled (list ++ v ∷ [])
  settled_next v there is = rw is (record {
    inside = λ u c. elim (Contains-push_cases list v u c) [
      | inl before ↦ listed.inside u before
      | inr now ↦ subst (λ (w : ℕ). HasVertex g w) now (subst (λ (r : GraphData). HasVertex r v) in_graph there)
    ];
    all = λ u in_u t. elim (cases_eq (u - 1) (v - 1)) [
      | inl same ↦
          let one : v ≡ u = omega (arith, same, in_u.0, there.0) in
          subst (λ (w : ℕ). Contains (list ++ v ∷ []) w) one (Contains-push list v)
      | inr other ↦ Contains-append_left list (v ∷ []) u (listed.all u in_u (sym (get_or-set_other old.settled (v - 1) (u - 1) true false other) ∙ t))
    ];
  })

  -- a step that extends nothing keeps the settled vertices on the list
  pub stays_listed : (step : Step) → is_end step ≡ false → Forgoes order A step old new → AreSettledOn g new.settled (listed_after step list)
  stays_listed (Settled v) more f = settled_next v f.rests.0 f.rests.2
  stays_listed Dropped more f = rw f.rests.settled listed
  stays_listed Ended more f = let bad : true ≡ false = more in cc

  -- an open vertex without an entry has no mark
  unmarked : AnswersBestOpen (by_number order) (keys_in old.marks) old.settled (length (keys_in old.marks)) None → (v : ℕ) (m : Mark V) → get_or old.settled (v - 1) false ≡ false → label_of old.marks v ≡ Some m → ⊥
  unmarked none v m o e =
      let key = read key_of old.marks v m e in
      elim (cases_lt (v - 1) (length (keys_in old.marks))) [
        | inl below ↦ (let bad : None ≡ Some (key_of m) = sym (none (v - 1) below o) ∙ key in cc)
        | inr past ↦ (let bad : None ≡ Some (key_of m) = sym (get_or_past (keys_in old.marks) (v - 1) None past) ∙ key in cc)
      ]

  -- at the end each vertex with a mark is on the list
  pub all_listed : (step : Step) → is_end step ≡ true → Forgoes order A step old new → AreNoted g.vertices list new.marks new.settled
  all_listed Ended end f = rw (f.rests.0, f.rests.1) (record {
    inside = λ v c. listed.inside v c;
    others = λ v low high. elim (cases_Bool (get_or old.settled (v - 1) false)) [
      | inl t ↦ inl (listed.all v (low, high) t)
      | inr o ↦ elim (is_some (label_of old.marks v)) [
        | inl empty ↦ inr (record { label = empty; mark = o })
        | inr some ↦ absurd (unmarked f.rests.2 v some.0 o some.1)
      ]
    ];
  })
  all_listed step end f = let bad : false ≡ true = end in cc
