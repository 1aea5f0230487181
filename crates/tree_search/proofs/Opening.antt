-- The marks at the start of a search, source by source.
use Rattle.tree_search.proofs.Words.{◌≡◌, ℕ, zero, suc, ◌+◌, ◌-◌, ◌<◌, ◌≤◌, inl, inr, Bool, List, [], ◌∷◌, length, get_or, set, replicate, take, map, refl, ap, sym, ◌∙◌, subst, arith, Option, Some, None, get_or-set_same, get_or-set_other, cases_eq, length-map, option_map, IsOrder, label_of, values_in, marked, source_mark, AreOpening, Mark}
use Rattle.path_plain.proofs.Known as plain
use Rattle.path_plain.specs.Opening as labels
use Rattle.tree_search.proofs.Reading.{outcome, values_marked}
use Rattle.tree_search.proofs.Steps.{none_there}

none_mapped : {X Y : Type 0} (f : X → Y) (n : ℕ) → map (option_map f) (replicate n None) ≡ replicate n None
none_mapped f zero = refl
none_mapped f (suc n) = ap (λ l. None ∷ l) (none_mapped f n)

module _ {V : Type 0} (no_worse : V → V → Bool) (ordered : IsOrder no_worse) (origin : V) (n : ℕ) where
  pub opening_none : AreOpening origin n [] (replicate n None)
  opening_none = record {
    labels = subst (λ (l : List (Option V)). labels.AreOpening origin n [] l) (sym (none_mapped (λ (m : Mark V). m.value) n)) (plain.opening_none no_worse origin n);
    only = λ v m e. let bad : None ≡ Some m = sym (none_there n (v - 1)) ∙ e in cc;
  }

  -- one turn of the loop over the sources
  pub opening_more : (sources : List ℕ) (i s : ℕ) (marks next : List (Option (Mark V))) → AreOpening origin n (take i sources) marks → i < length sources → s ≡ get_or sources i s →
      1 ≤ s → s ≤ n → next ≡ marked no_worse marks s (source_mark origin) → AreOpening origin n (take (i + 1) sources) next
  opening_more sources i s marks next known lt is low high e = record {
    labels = plain.opening_more no_worse origin n sources i s (values_in marks) (values_in next) known.labels lt is low high
        (ap values_in e ∙ values_marked no_worse ordered marks s (source_mark origin));
    only = λ v m f. elim (outcome no_worse ordered marks s (source_mark origin)) [
      | inl kept ↦ known.only v m (sym (ap (λ (l : List (Option (Mark V))). label_of l v) (e ∙ kept.same)) ∙ f)
      | inr taken ↦
          let read : get_or (set marks (s - 1) (Some (source_mark origin))) (v - 1) None ≡ Some m = sym (ap (λ (l : List (Option (Mark V))). label_of l v) (e ∙ taken.is)) ∙ f in
          elim (cases_eq (v - 1) (s - 1)) [
            | inl same ↦
                let len = length-map marks (option_map (λ (q : Mark V). q.value)) in
                let inside : s - 1 < length marks = omega (arith, low, high, known.labels.count, len) in
                let both : Some (source_mark origin) ≡ Some m =
                sym (ap (λ (k : ℕ). get_or (set marks (s - 1) (Some (source_mark origin))) k None) same ∙ get_or-set_same marks (s - 1) (Some (source_mark origin)) None inside) ∙ read in
                cc
            | inr other ↦ known.only v m (sym (get_or-set_other marks (s - 1) (v - 1) (Some (source_mark origin)) None other) ∙ read)
          ]
    ];
  }
