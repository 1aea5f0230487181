-- The best label among the places that are open, and among those of two lists of sources.
use Rattle.std.proofs.Common.{◌≡◌, ℕ, zero, suc, ◌+◌, ◌<◌, inl, inr, Bool, true, false, cond, List, get_or, refl, sym, ◌∙◌, subst, arith, Option, Some, None, below_more, add-one, ◌⊎◌, ◌++◌, length}
use Rattle.path_algebra.proofs.Words.{IsTrue, Contains-append_left, Contains-append_right, Contains-append_cases, GraphData, IsWalkValue, IsBest, IsBestLabel, AreBest, label_of, better_label}
use Rattle.path_algebra.specs.Algebra.{IsOrder, Algebra, IsLawful}
use Rattle.path_algebra.specs.Open.{AnswersBestOpen, better_of}

module _ {V : Type 0} (no_worse : V → V → Bool) (ordered : IsOrder no_worse) where
  pub same_no_worse : (a : V) → IsTrue (no_worse a a)
  same_no_worse a = elim (ordered.total a a) [ inl h ↦ h | inr h ↦ h ]

  pub other_no_worse : (a b : V) → no_worse a b ≡ false → IsTrue (no_worse b a)
  other_no_worse a b n = elim (ordered.total a b) [ inl h ↦ cc | inr h ↦ h ]

  module _ (labels : List (Option V)) (settled : List Bool) (i : ℕ) where
    -- x is no worse than the label at place j, if that is open and has one
    abbrev IsNoWorseAt : V → ℕ → Type 0
    IsNoWorseAt x j = (y : V) → get_or settled j false ≡ false → get_or labels j None ≡ Some y → IsTrue (no_worse x y)

    pub skip_settled : (best : Option (ℕ × V)) → get_or settled i false ≡ true →
        AnswersBestOpen no_worse labels settled i best → AnswersBestOpen no_worse labels settled (i + 1) best
    skip_settled None t h = below_more _ i h (λ e. cc)
    skip_settled (Some p) t h = record {
      below = let l : p.0 < i = h.below in omega arith;
      is_open = h.is_open;
      label = h.label;
      least = below_more (IsNoWorseAt p.1) i h.least (λ y e k. cc);
    }

    pub skip_unlabelled : (best : Option (ℕ × V)) → get_or labels i None ≡ None →
        AnswersBestOpen no_worse labels settled i best → AnswersBestOpen no_worse labels settled (i + 1) best
    skip_unlabelled None t h = below_more _ i h (λ e. t)
    skip_unlabelled (Some p) t h = record {
      below = let l : p.0 < i = h.below in omega arith;
      is_open = h.is_open;
      label = h.label;
      least = below_more (IsNoWorseAt p.1) i h.least (λ y e k. let bad : None ≡ Some y = sym t ∙ k in cc);
    }

    module _ (x : V) (open_here : get_or settled i false ≡ false)
        (label_here : get_or labels i None ≡ Some x) where
      here : (z y : V) → IsTrue (no_worse z x) → get_or labels i None ≡ Some y → IsTrue (no_worse z y)
      here z y h k = let e : x ≡ y = cc in subst (λ (v : V). IsTrue (no_worse z v)) e h

      choose : (p : ℕ × V) (b : Bool) → no_worse p.1 x ≡ b →
          AnswersBestOpen no_worse labels settled i (Some p) →
          AnswersBestOpen no_worse labels settled (i + 1) (Some (cond b p (i, x)))
      choose p true e h = record {
        below = let l : p.0 < i = h.below in omega arith;
        is_open = h.is_open;
        label = h.label;
        least = below_more (IsNoWorseAt p.1) i h.least (λ y o k. here p.1 y e k);
      }
      choose p false e h = record {
        below = omega arith;
        is_open = open_here;
        label = label_here;
        least = below_more (IsNoWorseAt x) i
            (λ j l y o k. ordered.transitive x p.1 y (other_no_worse p.1 x e) (h.least j l y o k))
            (λ y o k. here x y (same_no_worse x) k);
      }

      pub take_open : (best : Option (ℕ × V)) → AnswersBestOpen no_worse labels settled i best →
          AnswersBestOpen no_worse labels settled (i + 1) (better_of no_worse best i x)
      take_open None h = record {
        below = omega arith;
        is_open = open_here;
        label = label_here;
        least = below_more (IsNoWorseAt x) i
            (λ j l y o k. let bad : None ≡ Some y = sym (h j l o) ∙ k in cc)
            (λ y o k. here x y (same_no_worse x) k);
      }
      take_open (Some p) h = choose p (no_worse p.1 x) refl h

-- among the places below k there is a best open one, or none
module _ {V : Type 0} (no_worse : V → V → Bool) (ordered : IsOrder no_worse)
    (labels : List (Option V)) (marks : List Bool) where
  more : (k : ℕ) (best : Option (ℕ × V)) → AnswersBestOpen no_worse labels marks k best → (b : Bool) →
      get_or marks k false ≡ b → (l : Option V) → get_or labels k None ≡ l →
      (next : Option (ℕ × V)) × AnswersBestOpen no_worse labels marks (k + 1) next
  more k best h true e l f = (best, skip_settled no_worse ordered labels marks k best e h)
  more k best h false e None f = (best, skip_unlabelled no_worse ordered labels marks k best f h)
  more k best h false e (Some x) f =
      (better_of no_worse best k x, take_open no_worse ordered labels marks k x e f best h)

  pub best_open : (k : ℕ) → (best : Option (ℕ × V)) × AnswersBestOpen no_worse labels marks k best
  best_open zero = (None, λ j h. absurd (omega arith))
  best_open (suc k) = let before = best_open k in
      rw (← add-one) (more k before.0 before.1 (get_or marks k false) refl (get_or labels k None) refl)

module _ {V : Type 0} (A : Algebra V) (lawful : IsLawful A) (g : GraphData) (xs ys : List ℕ) where
  from_first : (v : ℕ) (x : V) → IsWalkValue A g xs v x → IsWalkValue A g (xs ++ ys) v x
  from_first v x w = (w.0, (w.1.0, Contains-append_left xs ys w.1.0 w.1.1, w.1.2), w.2)

  from_second : (v : ℕ) (x : V) → IsWalkValue A g ys v x → IsWalkValue A g (xs ++ ys) v x
  from_second v x w = (w.0, (w.1.0, Contains-append_right xs ys w.1.0 w.1.1, w.1.2), w.2)

  from_either : (v : ℕ) (x : V) → IsWalkValue A g (xs ++ ys) v x →
      IsWalkValue A g xs v x ⊎ IsWalkValue A g ys v x
  from_either v x w = elim (Contains-append_cases xs ys w.1.0 w.1.1) [
    | inl h ↦ inl (w.0, (w.1.0, h, w.1.2), w.2)
    | inr h ↦ inr (w.0, (w.1.0, h, w.1.2), w.2)
  ]

  both : (v : ℕ) (y z : V) (b : Bool) → A.no_worse y z ≡ b → IsBest A g xs v y → IsBest A g ys v z →
      IsBest A g (xs ++ ys) v (cond b y z)
  both v y z true e h k = record {
    attained = from_first v y h.attained;
    least = λ t w. elim (from_either v t w) [
      | inl u ↦ h.least t u
      | inr u ↦ lawful.ordered.transitive y z t e (k.least t u)
    ];
  }
  both v y z false e h k = record {
    attained = from_second v z k.attained;
    least = λ t w. elim (from_either v t w) [
      | inl u ↦ lawful.ordered.transitive z y t (other_no_worse A.no_worse lawful.ordered y z e) (h.least t u)
      | inr u ↦ k.least t u
    ];
  }

  merged_label : (v : ℕ) (l m : Option V) → IsBestLabel A g xs v l → IsBestLabel A g ys v m →
      IsBestLabel A g (xs ++ ys) v (better_label A.no_worse l m)
  merged_label v None None h k = λ t w. elim (from_either v t w) [ inl u ↦ h t u | inr u ↦ k t u ]
  merged_label v (Some y) None h k = record {
    attained = from_first v y h.attained;
    least = λ t w. elim (from_either v t w) [ inl u ↦ h.least t u | inr u ↦ absurd (k t u) ];
  }
  merged_label v None (Some z) h k = record {
    attained = from_second v z k.attained;
    least = λ t w. elim (from_either v t w) [ inl u ↦ absurd (h t u) | inr u ↦ k.least t u ];
  }
  merged_label v (Some y) (Some z) h k = both v y z (A.no_worse y z) refl h k

  pub merged_are_best : (ls ms ns : List (Option V)) → AreBest A g xs ls → AreBest A g ys ms →
      length ns ≡ length ls →
      ((v : ℕ) → label_of ns v ≡ better_label A.no_worse (label_of ls v) (label_of ms v)) →
      AreBest A g (xs ++ ys) ns
  merged_are_best ls ms ns h k n is = record {
    count = n ∙ h.count;
    best = λ v in_v. subst (λ (l : Option V). IsBestLabel A g (xs ++ ys) v l) (sym (is v))
        (merged_label v (label_of ls v) (label_of ms v) (h.best v in_v) (k.best v in_v));
  }
