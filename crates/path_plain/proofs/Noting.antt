-- The note of the labelled vertices holds from step to step, and by it a search is put back.
use Rattle.path_plain.proofs.Words.{◌≡◌, ℕ, ◌+◌, ◌-◌, ◌<◌, ◌≤◌, inl, inr, Bool, true, false, List, [], ◌∷◌, length, get_or, set, drop, replicate, ap, sym, ◌∙◌, subst, arith, not, Option, Some, None, get_or-set_same, get_or-set_other, cases_eq, Contains-append_left, Contains-push, Contains-push_cases, not_in_empty, head_or_tail, here, later, label_of}
use Rattle.std.proofs.lemmas.List.{get_or-replicate, length-replicate, ext_get_or, drop_all, drop_more}
use Rattle.std.specs.Prelude.{Contains, ⊤, is_some}
use Rattle.path_plain.specs.Noting.{IsUntouched, AreNoted, IsNoted, noted_if, noted_list}

-- v is on the list, if there is one
abbrev pub IsOn : Option (List ℕ) → ℕ → Type 0
IsOn None v = ⊤
IsOn (Some list) v = Contains list v

-- no vertex of a blank search is touched
pub noted_blank : (V : Type 0) (n : ℕ) (touched : Option (List ℕ)) → noted_list touched ≡ [] → IsNoted {V = V} n touched (replicate n None) (replicate n false)
noted_blank V n None e = tt
noted_blank V n (Some list) e = record {
  inside = λ v h. absurd (not_in_empty v (subst (λ (l : List ℕ). Contains l v) e h));
  others = λ v low high. inr (record {
    label = get_or-replicate {A = Option V} n (v - 1) None None (omega (arith, low, high));
    mark = get_or-replicate n (v - 1) false false (omega (arith, low, high));
  });
}

module _ {V : Type 0} (n : ℕ) (labels : List (Option V)) (settled : List Bool) where
  pub noted_more : (touched : Option (List ℕ)) (is_new : Bool) (v : ℕ) → 1 ≤ v → v ≤ n → IsNoted n touched labels settled → IsNoted n (noted_if is_new touched v) labels settled
  noted_more None true v low high known = tt
  noted_more None false v low high known = tt
  noted_more (Some list) false v low high known = known
  noted_more (Some list) true v low high known = record {
    inside = λ u h. elim (Contains-push_cases list v u h) [
      | inl old ↦ known.inside u old
      | inr new ↦ (subst (λ (w : ℕ). 1 ≤ w) new low, subst (λ (w : ℕ). w ≤ n) new high)
    ];
    others = λ u low_u high_u. elim (known.others u low_u high_u) [
      | inl old ↦ inl (Contains-append_left list (v ∷ []) u old)
      | inr untouched ↦ inr untouched
    ];
  }

  -- what has a label is noted
  pub on_labelled : (touched : Option (List ℕ)) → IsNoted n touched labels settled → (v : ℕ) (y : V) → 1 ≤ v → v ≤ n → label_of labels v ≡ Some y → IsOn touched v
  on_labelled None known v y low high e = tt
  on_labelled (Some list) known v y low high e = elim (known.others v low high) [
    | inl on ↦ on
    | inr untouched ↦ let bad : None ≡ Some y = sym untouched.label ∙ e in cc
  ]

  -- a vertex without a label is noted as new, and so each is noted
  pub on_noted : (touched : Option (List ℕ)) → IsNoted n touched labels settled → (v : ℕ) (l : Option V) (is_new : Bool) → 1 ≤ v → v ≤ n → label_of labels v ≡ l → is_some l ≡ not is_new →
      IsOn (noted_if is_new touched v) v
  on_noted None known v l true low high e n = tt
  on_noted None known v l false low high e n = tt
  on_noted (Some list) known v l true low high e n = Contains-push list v
  on_noted (Some list) known v None false low high e n = let bad : false ≡ true = n in cc
  on_noted (Some list) known v (Some y) false low high e n = on_labelled (Some list) known v y low high e

  -- a vertex that is noted may get a label, and a mark
  pub noted_label : (touched : Option (List ℕ)) (v : ℕ) (l : Option V) → 1 ≤ v → IsOn touched v → IsNoted n touched labels settled → IsNoted n touched (set labels (v - 1) l) settled
  noted_label None v l low on known = tt
  noted_label (Some list) v l low on known = record {
    inside = known.inside;
    others = λ u low_u high_u. elim (cases_eq (u - 1) (v - 1)) [
      | inl same ↦ let is : v ≡ u = omega (arith, low, low_u, same) in inl (subst (λ (w : ℕ). Contains list w) is on)
      | inr other ↦ elim (known.others u low_u high_u) [
        | inl old ↦ inl old
        | inr untouched ↦ inr (record { label = get_or-set_other labels (v - 1) (u - 1) l None other ∙ untouched.label; mark = untouched.mark })
      ]
    ];
  }

  pub noted_mark : (touched : Option (List ℕ)) (v : ℕ) → 1 ≤ v → IsOn touched v → IsNoted n touched labels settled → IsNoted n touched labels (set settled (v - 1) true)
  noted_mark None v low on known = tt
  noted_mark (Some list) v low on known = record {
    inside = known.inside;
    others = λ u low_u high_u. elim (cases_eq (u - 1) (v - 1)) [
      | inl same ↦ let is : v ≡ u = omega (arith, low, low_u, same) in inl (subst (λ (w : ℕ). Contains list w) is on)
      | inr other ↦ elim (known.others u low_u high_u) [
        | inl old ↦ inl old
        | inr untouched ↦ inr (record { label = untouched.label; mark = get_or-set_other settled (v - 1) (u - 1) true false other ∙ untouched.mark })
      ]
    ];
  }

  -- the first vertex of the list is put back
  pub noted_less : (v : ℕ) (rest : List ℕ) → length labels ≡ n → length settled ≡ n → AreNoted n (v ∷ rest) labels settled → AreNoted n rest (set labels (v - 1) None) (set settled (v - 1) false)
  noted_less v rest count marks known = record {
    inside = λ u h. known.inside u (later v u rest h);
    others = λ u low high. elim (cases_eq (u - 1) (v - 1)) [
      | inl same ↦ inr (record {
        label = rw same (get_or-set_same labels (v - 1) None None (omega (arith, low, high, same, count)));
        mark = rw same (get_or-set_same settled (v - 1) false false (omega (arith, low, high, same, marks)));
      })
      | inr other ↦ elim (known.others u low high) [
        | inl on ↦ elim (head_or_tail v u rest on) [
          | inl same ↦ absurd (other (omega (arith, same)))
          | inr waits ↦ inl waits
        ]
        | inr untouched ↦ inr (record {
          label = get_or-set_other labels (v - 1) (u - 1) None None other ∙ untouched.label;
          mark = get_or-set_other settled (v - 1) (u - 1) false false other ∙ untouched.mark;
        })
      ]
    ];
  }

-- the same, for the vertex at a place of a whole list
module _ {V : Type 0} {n : ℕ} {labels : List (Option V)} {settled : List Bool} (list : List ℕ) (i : ℕ) (known : AreNoted n (drop i list) labels settled) where
  module _ {v : ℕ} (lt : i < length list) (is : v ≡ get_or list i v) where
    is_next : drop i list ≡ v ∷ drop (i + 1) list
    is_next = drop_more list i v lt ∙ ap (λ (u : ℕ). u ∷ drop (i + 1) list) (sym is)

    pub next_inside : (1 ≤ v) × (v ≤ n)
    next_inside = known.inside v (rw is_next (here v (drop (i + 1) list)))

    pub next_put_back : length labels ≡ n → length settled ≡ n → AreNoted n (drop (i + 1) list) (set labels (v - 1) None) (set settled (v - 1) false)
    next_put_back count marks = noted_less n labels settled v (drop (i + 1) list) count marks (rw is_next at known)

  -- past the list nothing is touched
  module _ (past : length list ≤ i) where
    untouched_at : (j : ℕ) → j < n → IsUntouched labels settled (j + 1)
    untouched_at j lt = elim (known.others (j + 1) (omega arith) (omega (arith, lt))) [ inl on ↦ absurd (not_in_empty (j + 1) (rw (drop_all i list past) at on)) | inr untouched ↦ untouched ]

    pub no_labels : length labels ≡ n → labels ≡ replicate n None
    no_labels count =
        ext_get_or None labels (replicate n None) (count ∙ sym (length-replicate n None)) (λ j lt.
        let here_j : j < n = omega (arith, lt, count) in
        let e : (j + 1) - 1 ≡ j = omega arith in
        let none : get_or labels j None ≡ None = rw e at ((untouched_at j here_j).label) in
        none ∙ sym (get_or-replicate {A = Option V} n j None None here_j))

    pub no_marks : length settled ≡ n → settled ≡ replicate n false
    no_marks count =
        ext_get_or false settled (replicate n false) (count ∙ sym (length-replicate n false)) (λ j lt.
        let here_j : j < n = omega (arith, lt, count) in
        let e : (j + 1) - 1 ≡ j = omega arith in
        let none : get_or settled j false ≡ false = rw e at ((untouched_at j here_j).mark) in
        none ∙ sym (get_or-replicate n j false false here_j))
