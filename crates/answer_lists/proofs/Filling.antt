-- Lists that are filled with a tree, vertex by vertex.
use Rattle.std.proofs.Common.{◌≡◌, ◌≢◌, ℕ, ◌+◌, ◌-◌, ◌<◌, ◌≤◌, inl, inr, List, [], ◌∷◌, length, get_or, set, refl, ap, sym, ◌∙◌, subst, arith, length-set, get_or-set_same, get_or-set_other}
use Rattle.std.specs.Prelude.{replicate}
use lib.ListN.{length-replicate}
use Rattle.std.proofs.Math.Nat.{eq-or-lt_of_le}
use Rattle.answer_lists.proofs.Words.{GraphData, Algebra, label_of, IsVertexLine, HavePlaces}
use Rattle.answer_lists.specs.Tree.{line_of, lines_of, AreTreeLists, AreWantedLists, IsAllOrNone, HaveAllOrNone, IsListOrNone}
use Rattle.answer_lists.proofs.Spelled.{lines_count, line_there}

-- the line of a vertex is that of its three numbers
pub label_there : (n : ℕ) (codes hops parents : List ℕ) → HavePlaces n codes hops parents → (v : ℕ) → v - 1 < n →
    label_of (lines_of codes hops parents) v ≡ line_of (get_or codes (v - 1) 0) (get_or hops (v - 1) 0) (get_or parents (v - 1) 0)
label_there n codes hops parents (e, f, h) v lt = line_there codes hops parents (f ∙ sym e) (h ∙ sym e) (v - 1) (omega (arith, lt, e))

-- the first i vertices are written
pub record AreTreeListsUpTo {V : Type 0} (A : Algebra V) (g : GraphData) (sources : List ℕ) (i : ℕ) (codes hops parents : List ℕ) : Type 0 where
  pub places : HavePlaces g.vertices codes hops parents
  pub each : (k : ℕ) → k < i → IsVertexLine A g sources (k + 1) (line_of (get_or codes k 0) (get_or hops k 0) (get_or parents k 0))

module _ {V : Type 0} (A : Algebra V) (g : GraphData) (sources : List ℕ) (codes hops parents : List ℕ) where
  pub told_next : (i : ℕ) → AreTreeListsUpTo A g sources i codes hops parents → i < length codes → (x k u : ℕ) → IsVertexLine A g sources (i + 1) (line_of x k u) →
      AreTreeListsUpTo A g sources (i + 1) (set codes i x) (set hops i k) (set parents i u)
  told_next i up lt x k u told =
      let (n, m, l) = up.places in record {
        places = (length-set codes i x ∙ n, length-set hops i k ∙ m, length-set parents i u ∙ l);
        each = λ j below. elim (eq-or-lt_of_le {n = j} {m = i} (omega (arith, below))) as
            (λ _. IsVertexLine A g sources (j + 1) (line_of (get_or (set codes i x) j 0) (get_or (set hops i k) j 0) (get_or (set parents i u) j 0))) [
              | inl same ↦ rw (same, get_or-set_same codes i x 0 lt, get_or-set_same hops i k 0 (omega (arith, lt, n, m)), get_or-set_same parents i u 0 (omega (arith, lt, n, l))) told
              | inr less ↦
                  let other : j ≢ i = λ e. omega (arith, less, e) in
                  rw (get_or-set_other codes i j x 0 other, get_or-set_other hops i j k 0 other, get_or-set_other parents i j u 0 other) (up.each j less)
            ];
      }

  pub all_told : (i : ℕ) → AreTreeListsUpTo A g sources i codes hops parents → length codes ≤ i → AreTreeLists A g sources codes hops parents
  all_told i up le =
      let (n, m, l) = up.places in record {
        places = up.places;
        lines = record {
          count = lines_count codes hops parents (m ∙ sym n) (l ∙ sym n) ∙ n;
          each = λ v has.
              let back : v - 1 + 1 ≡ v = omega (arith, has.0) in
              let told = up.each (v - 1) (omega (arith, has.0, has.1, n, le)) in
              let there = label_there g.vertices codes hops parents up.places v (omega (arith, has.0, has.1)) in
              subst (IsVertexLine A g sources v) (sym there) (rw back at told);
        };
      }

-- the first i vertices are written to the lists that are wanted
pub record AreWantedUpTo {V : Type 0} (A : Algebra V) (g : GraphData) (sources : List ℕ) (i : ℕ) (codes hops parents : List ℕ) : Type 0 where
  pub all_codes : List ℕ
  pub all_hops : List ℕ
  pub all_parents : List ℕ
  pub tree : AreTreeListsUpTo A g sources i all_codes all_hops all_parents
  pub codes_are : IsListOrNone codes all_codes
  pub hops_are : IsListOrNone hops all_hops
  pub parents_are : IsListOrNone parents all_parents

-- a list to which i is written, or that has no place for it
set_in : (list whole : List ℕ) (i x : ℕ) → IsListOrNone list whole → IsListOrNone (set list i x) (set whole i x)
set_in list whole i x (inl is) = inl (ap (λ xs. set xs i x) is)
set_in list whole i x (inr none) = inr (ap (λ xs. set xs i x) none)

-- a list of n places that is this one, if this one has places
spread : (n : ℕ) (list : List ℕ) → IsAllOrNone n (length list) → (whole : List ℕ) × (length whole ≡ n) × IsListOrNone list whole
spread n list (inl all) = (list, all, inl refl)
spread n list (inr none) = (replicate n 0, length-replicate n 0, inr (none_of list none))
  where
    none_of : (list : List ℕ) → length list ≡ 0 → list ≡ []
    none_of [] e = refl
    none_of (x ∷ xs) e = absurd (omega (arith, e))

module _ {V : Type 0} (A : Algebra V) (g : GraphData) (sources : List ℕ) (codes hops parents : List ℕ) where
  pub none_written : HaveAllOrNone g.vertices codes hops parents → AreWantedUpTo A g sources 0 codes hops parents
  none_written (c, h, p) =
      let (all_codes, n, are) = spread g.vertices codes c in let (all_hops, m, are_hops) = spread g.vertices hops h in let (all_parents, l, are_parents) = spread g.vertices parents p in
      record {
        all_codes = all_codes;
        all_hops = all_hops;
        all_parents = all_parents;
        codes_are = are;
        hops_are = are_hops;
        parents_are = are_parents;
        tree = record { places = (n, m, l); each = λ k below. absurd (omega (arith, below)) };
      }

  pub next_written : (i : ℕ) → AreWantedUpTo A g sources i codes hops parents → i < g.vertices → (x k u : ℕ) → IsVertexLine A g sources (i + 1) (line_of x k u) →
      AreWantedUpTo A g sources (i + 1) (set codes i x) (set hops i k) (set parents i u)
  next_written i up lt x k u told = record {
    all_codes = set up.all_codes i x;
    all_hops = set up.all_hops i k;
    all_parents = set up.all_parents i u;
    tree = told_next A g sources up.all_codes up.all_hops up.all_parents i up.tree (omega (arith, lt, up.tree.places.0)) x k u told;
    codes_are = set_in codes up.all_codes i x up.codes_are;
    hops_are = set_in hops up.all_hops i k up.hops_are;
    parents_are = set_in parents up.all_parents i u up.parents_are;
  }

  pub all_written : (i : ℕ) → AreWantedUpTo A g sources i codes hops parents → g.vertices ≤ i → AreWantedLists A g sources codes hops parents
  all_written i up le = record {
    all_codes = up.all_codes;
    all_hops = up.all_hops;
    all_parents = up.all_parents;
    tree = all_told A g sources up.all_codes up.all_hops up.all_parents i up.tree (omega (arith, le, up.tree.places.0));
    codes_are = up.codes_are;
    hops_are = up.hops_are;
    parents_are = up.parents_are;
  }
