-- What the arcs into a vertex show of its line, as the check computes it.
use Rattle.std.specs.Prelude.{ℕ, ◌+◌, ◌^◌, List, Bool, true, false, not, ◌&&◌, ◌||◌, nat_eq, nat_lt, if◌then◌else◌, Option, Some, None}
use Rattle.std.specs.List.{list_any}
use Rattle.road_graph.specs.declared.OutRoad.{OutRoad}
use Rattle.path_algebra.specs.Algebra.{Algebra}
use Rattle.path_algebra.specs.Walks.{label_of}
use Rattle.answer_text.specs.declared.answers.Reached.{Reached}
use Rattle.answer_check.specs.declared.verdict.Reason.{Reason}
use Rattle.answer_check.specs.declared.verdict.Reason.TheVariants.{NotBest, NoParent, OtherHops, LesserParent}
use Rattle.answer_check.specs.declared.evidence.Evidence.{Evidence}

-- the value that a number of 64 bits is the code of
abbrev pub decoded : {V : Type 0} → Algebra V → ℕ → Option V
decoded A c = if nat_lt c (2 ^ 64) then A.value_of c else None

-- a value, if there is one, extended by an arc of this weight
abbrev pub extended : {V : Type 0} → Algebra V → Option V → ℕ → Option V
extended A None w = None
extended A (Some x) w = A.extend x w

-- a value with the line that it came from
abbrev pub beside : {V : Type 0} → Reached → Option V → Option (Reached × V)
beside near None = None
beside near (Some z) = Some (near, z)

-- what an arc of this weight offers from a vertex with this line: the line, and its value extended
-- by the arc
abbrev pub candidate_from : {V : Type 0} → Algebra V → Option Reached → ℕ → Option (Reached × V)
candidate_from A None w = None
candidate_from A (Some near) w = beside near (extended A (decoded A near.code) w)

-- what an arc, given reversed, offers to the vertex that it enters
abbrev pub candidate : {V : Type 0} → Algebra V → List (Option Reached) → OutRoad → Option (Reached × V)
candidate A lines road = candidate_from A (label_of lines road.head) road.weight

-- two values are the same
abbrev pub is_same : {V : Type 0} → (V → V → Bool) → V → V → Bool
is_same no_worse y z = no_worse y z && no_worse z y

-- whether something is offered, and its line and its value pass a test
abbrev pub passes : {V : Type 0} → (Reached → V → Bool) → Option (Reached × V) → Bool
passes test None = false
passes test (Some b) = test b.0 b.1

-- what one arc from u shows of a line r with the value y, by what it offers
abbrev pub evidence_by : {V : Type 0} → (V → V → Bool) → ℕ → Reached → V → Option (Reached × V) → Evidence
evidence_by no_worse u r y offered = record {
  better = passes (λ near z. not (no_worse y z)) offered;
  supported = passes (λ near z. is_same no_worse y z && nat_eq u r.parent) offered;
  astray = passes (λ near z. is_same no_worse y z && (nat_eq u r.parent && not (nat_eq (near.hops + 1) r.hops))) offered;
  nearer = passes (λ near z. is_same no_worse y z && nat_lt (near.hops + 1) r.hops) offered;
  lesser = passes (λ near z. is_same no_worse y z && (nat_lt u r.parent && nat_eq (near.hops + 1) r.hops)) offered;
}

-- what one arc shows, given reversed
abbrev pub evidence_of : {V : Type 0} → Algebra V → (V → V → Bool) → List (Option Reached) → Reached → V → OutRoad → Evidence
evidence_of A no_worse lines r y road = evidence_by no_worse road.head r y (candidate A lines road)

-- what either of the two shows
abbrev pub either : Evidence → Evidence → Evidence
either s t = record {
  better = s.better || t.better;
  supported = s.supported || t.supported;
  astray = s.astray || t.astray;
  nearer = s.nearer || t.nearer;
  lesser = s.lesser || t.lesser;
}

-- what some arc of a list shows
abbrev pub all_evidence : {V : Type 0} → Algebra V → (V → V → Bool) → List (Option Reached) → Reached → V → List OutRoad → Evidence
all_evidence A no_worse lines r y roads = record {
  better = list_any (λ road. (evidence_of A no_worse lines r y road).better) roads;
  supported = list_any (λ road. (evidence_of A no_worse lines r y road).supported) roads;
  astray = list_any (λ road. (evidence_of A no_worse lines r y road).astray) roads;
  nearer = list_any (λ road. (evidence_of A no_worse lines r y road).nearer) roads;
  lesser = list_any (λ road. (evidence_of A no_worse lines r y road).lesser) roads;
}

-- the first reason that the evidence gives
abbrev pub reason_by : Evidence → Option Reason
reason_by evidence =
    if evidence.better then Some NotBest
    else if not evidence.supported then Some NoParent
    else if evidence.astray then Some OtherHops
    else if evidence.nearer then Some OtherHops
    else if evidence.lesser then Some LesserParent
    else None

-- whether something is offered
abbrev pub is_there : {V : Type 0} → Option (Reached × V) → Bool
is_there offered = passes (λ near z. true) offered
