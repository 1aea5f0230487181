-- Both links between two places as one edge, and rows of links that list the same places both ways.
use Rattle.std.specs.Prelude.{◌≡◌, ℕ, ◌<◌, Bool, true, false, List, length, map, cond, Contains, slice_index_or}
use Rattle.path_algebra.specs.Composition.{Composition}
use Rattle.path_factors.specs.declared.link.Link.{Link}
use Rattle.path_factors.specs.declared.edge.Edge.{Edge}
use Rattle.path_factors.specs.Factors.{FactorData, LeadsNoWorse, row_of}
use Rattle.path_factors.specs.Asking.{is_on}
use Rattle.path_factors.specs.Eliminating.{AreImproved}
use Rattle.path_factors.specs.Heads.{heads_in}

-- the link of an edge to its greater place
abbrev pub rising : {W : Type 0} → Edge W → Link W
rising e = record { place = e.place; walk = e.leaving }

-- the link of an edge from its greater place
abbrev pub falling : {W : Type 0} → Edge W → Link W
falling e = record { place = e.place; walk = e.entering }

-- for each place the links to greater places and from greater places
pub record LinkRows (W : Type 0) : Type 0 where
  pub leaving : List (List (Link W))
  pub entering : List (List (Link W))

-- the rows of a place list the same places, in the same order
abbrev pub AreAligned : {W : Type 0} → List (List (Link W)) → List (List (Link W)) → Type 0
AreAligned leaving entering =
    (i : ℕ) → map (λ k. k.place) (row_of leaving i) ≡ map (λ k. k.place) (row_of entering i)

-- each link has the same walk
abbrev pub AreBlank : {W : Type 0} → W → List (List (Link W)) → Type 0
AreBlank {W} none rows = (i : ℕ) (k : Link W) → Contains (row_of rows i) k → k.walk ≡ none

-- rows in which the link at index j of that of place i has another walk
pub record IsReplaced {W : Type 0} (walk : W) (i j : ℕ) (before after : List (List (Link W))) : Type 0 where
  pub heads : heads_in after ≡ heads_in before
  pub others : (q : ℕ) → (q ≡ i → ⊥) → row_of after q ≡ row_of before q
  pub here : (k : Link W) → (slice_index_or (row_of after i) j k).walk ≡ walk
  pub rest : (m : ℕ) (k : Link W) → (m ≡ j → ⊥) → slice_index_or (row_of after i) m k ≡ slice_index_or (row_of before i) m k

-- rows in which the first j links of that of place i have no walk
pub record IsBlankedTo {W : Type 0} (none : W) (i j : ℕ) (before after : List (List (Link W))) : Type 0 where
  pub heads : heads_in after ≡ heads_in before
  pub others : (q : ℕ) → (q ≡ i → ⊥) → row_of after q ≡ row_of before q
  pub blank : (m : ℕ) (k : Link W) → m < j → (slice_index_or (row_of after i) m k).walk ≡ none

-- rows after the walks at the links of marked places were taken away
pub record AreBlanked {W : Type 0} (none : W) (marks : List Bool) (before after : List (List (Link W))) : Type 0 where
  pub heads : heads_in after ≡ heads_in before
  pub rest : (i : ℕ) → is_on marks i ≡ false → row_of after i ≡ row_of before i
  pub blank : (i : ℕ) (k : Link W) → is_on marks i ≡ true → Contains (row_of after i) k → k.walk ≡ none

-- the better of two walks, the first if both are as good
abbrev pub better_walk : {V W : Type 0} → Composition V W → W → W → W
better_walk C a b = cond (C.no_worse a b) a b

-- rows after both links of an edge were added to that of place i
pub record AreEdgesImproved {V W : Type 0} (C : Composition V W) (before : LinkRows W) (i : ℕ) (e : Edge W) (after : LinkRows W) : Type 0 where
  pub leaving : AreImproved C before.leaving i (rising e) after.leaving
  pub entering : AreImproved C before.entering i (falling e) after.entering

-- e is the edge at index j of the row of place v
pub record IsEdgeAt {W : Type 0} (F : FactorData W) (v j : ℕ) (e : Edge W) : Type 0 where
  pub leaving_inside : j < length (row_of F.leaving v)
  pub entering_inside : j < length (row_of F.entering v)
  pub rises : slice_index_or (row_of F.leaving v) j (rising e) ≡ rising e
  pub falls : slice_index_or (row_of F.entering v) j (falling e) ≡ falling e

-- links lead between the greater places of two edges, both ways, no worse than over the place where
-- the edges meet
abbrev pub AreJoined : {V W : Type 0} → Composition V W → FactorData W → Edge W → Edge W → Type 0
AreJoined C F e f =
    (e.place ≡ f.place → ⊥) → LeadsNoWorse C F e.place f.place (C.compose e.entering f.leaving)
    × LeadsNoWorse C F f.place e.place (C.compose f.entering e.leaving)
