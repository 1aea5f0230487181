-- What a service promises of its inputs and its output, from what reading and serving promise.
use Rattle.std.proofs.Common.{◌≡◌, ◌≢◌, ◌⊎◌, ◌↔◌, inl, inr, Bool, true, false, ℕ, ◌≤◌, Option, None, Some, Result, Ok, Err, refl, sym, ap, ◌∙◌, subst, arith}
use Rattle.service.proofs.Words.{GraphData, Algebra, RunFault, Settings}
use Rattle.service.specs.Over.{IsOverFault, RanOver}
use Rattle.graph_text.specs.GraphFiles.{gr_rules}
use Rattle.batch_inputs.specs.declared.faults.File.{File}
use Rattle.batch_inputs.specs.declared.faults.File.TheVariants.{Graph, Questions, Order, NoFile}
use Rattle.batch_inputs.specs.Spelled.{IsReadAs}
use Rattle.path_algebra.specs.declared.counted_sums.Cost.{Cost}
use Rattle.batch_inputs.specs.Orders.{HasOrderFaultIn, IsOrderedFile}
use Rattle.batch_inputs.specs.InputFaults.{IsNumberOf, IsOrderNumber, IsRoadNumber}
use Rattle.batch_settings.specs.Unsuited.{IsUnsuited}
use Rattle.batch_run.specs.Unsuited.{IsRefusedUnsuited}
use Rattle.batch_run.proofs.Suiting.{suited_by, suited_whole}
use Rattle.batch_run.specs.Runs.{Input, Output}
use Rattle.service.specs.GraphInput.{HasReadGraph, HasReadGraphOrdered, IsGraphFile, IsServingFile, graph_later}
use Rattle.service.specs.Served.{IsStopOfInput, RanService}

-- one outcome is one fault
file_of : (r : Result (Unit {0}) RunFault) (f h : RunFault) → r ≡ Err f → r ≡ Err h → f.file ≡ h.file
file_of r f h p q =
    let same : f ≡ h = cc in ap (λ (x : RunFault). x.file) same

-- a fault of what is read before the requests is of the graph or of the order
read_before : (file : File) → IsOrderedFile IsGraphFile file → IsServingFile file → ⊥
read_before file (inl e) (inl h) = let bad : Graph ≡ Questions = sym e ∙ h in cc
read_before file (inl e) (inr h) = let bad : Graph ≡ NoFile = sym e ∙ h in cc
read_before file (inr e) (inl h) = let bad : Order ≡ Questions = sym e ∙ h in cc
read_before file (inr e) (inr h) = let bad : Order ≡ NoFile = sym e ∙ h in cc

order_is_no_graph : (file : File) → file ≡ Order → file ≢ Graph
order_is_no_graph file e h = let bad : Order ≡ Graph = sym e ∙ h in cc

-- it has a number of its own
read_number : (file : File) (n : ℕ) → IsOrderedFile IsGraphFile file → IsNumberOf file n → ((file ≡ Graph) × IsRoadNumber n) ⊎ ((file ≡ Order) × IsOrderNumber n)
read_number file n (inl e) h = inl (e, subst (λ (x : File). IsNumberOf x n) e h)
read_number file n (inr e) h = inr (e, subst (λ (x : File). IsNumberOf x n) e h)

number_low : (file : File) (n : ℕ) → ((file ≡ Graph) × IsRoadNumber n) ⊎ ((file ≡ Order) × IsOrderNumber n) → n ≤ 20
number_low file n (inl (e, inl low)) = omega (arith, low.1)
number_low file n (inl (e, inr own)) = omega (arith, own.1)
number_low file n (inr (e, inl low)) = omega (arith, low.1)
number_low file n (inr (e, inr own)) = omega (arith, own.1)

-- a fault of an order that was read is of its file
of_order : {O : Type 0} (n : ℕ) (order order_after : Option (Input O)) (f : RunFault) → HasOrderFaultIn n order order_after f → f.file ≡ Order
of_order n None order_after f h = absurd h
of_order n (Some order) None f h = absurd h
of_order n (Some order) (Some order_after) f h = h.file

-- what stops a service over a graph is no fault of the graph, and no setting
not_of_graph : (f : RunFault) → IsOverFault f → f.file ≡ Graph → ⊥
not_of_graph f (inl (file, (which, line))) e = let bad : Questions ≡ Graph = sym file ∙ e in cc
not_of_graph f (inr (file, line, which)) e = let bad : NoFile ≡ Graph = sym file ∙ e in cc

not_a_setting : (f : RunFault) → IsOverFault f → f.number ≡ 43 → ⊥
not_a_setting f (inl (file, (inl one, line))) e = omega (arith, one, e)
not_a_setting f (inl (file, (inr two, line))) e = omega (arith, two, e)
not_a_setting f (inr (file, line, inl three)) e = omega (arith, three, e)
not_a_setting f (inr (file, line, inr write)) e = omega (arith, write, e)

in_no_line : (f : RunFault) → IsOverFault f → f.line ≡ 0
in_no_line f (inl (file, (which, line))) = line
in_no_line f (inr (file, line, which)) = line

-- it is of one of the kinds of a service
kind_of_service : (f : RunFault) → IsOverFault f → ((f.file ≡ Graph) × IsRoadNumber f.number) ⊎ (((f.file ≡ Order) × IsOrderNumber f.number)
    ⊎ (((f.file ≡ Questions) × IsStopOfInput f) ⊎ ((f.file ≡ NoFile) × (f.line ≡ 0) × ((f.number ≡ 3) ⊎ ((f.number ≡ 42) ⊎ (f.number ≡ 43))))))
kind_of_service f (inl stop) = inr (inr (inl stop))
kind_of_service f (inr (file, line, inl three)) = inr (inr (inr (file, line, inl three)))
kind_of_service f (inr (file, line, inr write)) = inr (inr (inr (file, line, inr (inl write))))

-- its file is one of serving
serving_file : (f : RunFault) → IsOverFault f → IsServingFile f.file
serving_file f (inl (file, stop)) = inl file
serving_file f (inr (file, line, which)) = inr file

-- settings that suit are not refused, over a graph or by a fault of one
module _ (cost : Option Cost) (how : Settings) (suits : Bool) (suit : suits ≡ true) (exactly : (suits ≡ false) ↔ IsUnsuited cost how) where
  pub over_suited : {V Q W : Type 0} (A : Algebra V) (gate : ℕ → ℕ → Bool → Type 0) (g : GraphData) (input input_after : Input Q) (out out_after : Output W) (r : Result (Unit {0}) RunFault)
      → RanOver A how gate g input input_after out out_after r → IsRefusedUnsuited cost how r
  over_suited A gate g input input_after out out_after (Ok u) over = suited_whole cost how suits suit exactly
  over_suited A gate g input input_after out out_after (Err f) over = suited_by cost how suits suit exactly f (λ _. not_a_setting f over.kinds)

  pub read_suited : (f : RunFault) → IsOrderedFile IsGraphFile f.file → IsRefusedUnsuited cost how (Err f)
  read_suited f own = suited_by cost how suits suit exactly f (λ file. absurd (read_before f.file own (inr file)))

-- what serving over a graph promises is what a service does that read the graph from an input, and
-- then its order from another, if there is one
module _ {V G O Q W : Type 0} (A : Algebra V) (how : Settings) (gate : ℕ → ℕ → Bool → Type 0) (graph graph_after : Input G) (order order_after : Option (Input O)) (input input_after : Input Q)
    (out out_after : Output W) (g : GraphData) (is : IsReadAs gr_rules graph.left g) (ordered : HasReadGraphOrdered graph graph_after order order_after (Ok tt)) where
  roads_later : (f : RunFault) → IsOverFault f → HasReadGraph graph graph_after (Err f)
  roads_later f kinds = graph_later graph graph_after f (not_of_graph f kinds) (not_a_setting f kinds) ordered.0

  pub over_graph : (r : Result (Unit {0}) RunFault) → RanOver A how gate g input input_after out out_after r → RanService A how gate graph graph_after order order_after input input_after out out_after r
  over_graph (Ok u) over = record {
    done = (g, is, over.done);
    passed_on = over.passed_on;
    sound = over.sound;
    ends = over.ends;
    stopped = tt;
    too_long = tt;
    nothing_held = tt;
    fell = tt;
    read = ordered.0;
    ordered = ordered;
    read_input = over.read_input;
    kinds = tt;
    unfactored = tt;
    placed = tt;
    before_requests = tt;
    untouched = tt;
  }
  over_graph (Err f) over = record {
    done = tt;
    passed_on = tt;
    sound = tt;
    ends = tt;
    stopped = λ file one. (g, is, over.stopped file one);
    too_long = λ file two. (g, is, over.too_long file two);
    nothing_held = over.nothing_held;
    fell = λ write. (g, is, over.fell write);
    read = roads_later f over.kinds;
    ordered = inr (inr (roads_later f over.kinds, serving_file f over.kinds, not_a_setting f over.kinds, ordered.1));
    read_input = over.read_input;
    kinds = kind_of_service f over.kinds;
    unfactored = λ file three. let (chosen, unread, unwritten) = over.unfactored file three in (chosen, (g, is, tt), ordered.0.end, unread, unwritten);
    placed = λ few. in_no_line f over.kinds;
    before_requests = λ own. absurd (read_before f.file own (serving_file f over.kinds));
    untouched = λ setting. absurd (not_a_setting f over.kinds setting);
  }

module _ {V G O Q W : Type 0} (A : Algebra V) (how : Settings) (gate : ℕ → ℕ → Bool → Type 0) (graph graph_after : Input G) (order order_after : Option (Input O)) (input : Input Q) (out : Output W) where
  -- how the graph was read, if it or its order has a fault
  roads_read : (f : RunFault) → f.number ≢ 43 → HasReadGraphOrdered graph graph_after order order_after (Err f) → HasReadGraph graph graph_after (Err f)
  roads_read f other (inl (read, why, same)) = read
  roads_read f other (inr (inl (read, (g, asked, is, fault)))) = graph_later graph graph_after f (order_is_no_graph f.file (of_order g.vertices order order_after f fault)) other read
  roads_read f other (inr (inr (read, file, number, whole))) = read

  -- the graph has a fault, or its order
  pub read_failed : (f : RunFault) → HasReadGraphOrdered graph graph_after order order_after (Err f) → IsOrderedFile IsGraphFile f.file → IsNumberOf f.file f.number → (f.number ≤ 3 → f.line ≡ 0)
      → RanService A how gate graph graph_after order order_after input input out out (Err f)
  read_failed f ordered own numbered placed = record {
    done = tt;
    passed_on = tt;
    sound = tt;
    ends = tt;
    stopped = λ file one. absurd (read_before f.file own (inl file));
    too_long = λ file two. absurd (read_before f.file own (inl file));
    nothing_held = λ file. absurd (read_before f.file own (inl file));
    fell = λ write. absurd (other 42 (omega arith) write);
    read = roads_read f (other 43 (omega arith)) ordered;
    ordered = ordered;
    read_input = (λ e. absurd (read_before f.file own (inl (file_of _ _ _ refl e))), λ failed. absurd (failed refl));
    kinds = by_kind kind;
    unfactored = λ file three. absurd (read_before f.file own (inr file));
    placed = placed;
    before_requests = λ _. (refl, refl);
    untouched = λ setting. absurd (other 43 (omega arith) setting);
  }
    where
      kind : ((f.file ≡ Graph) × IsRoadNumber f.number) ⊎ ((f.file ≡ Order) × IsOrderNumber f.number)
      kind = read_number f.file f.number own numbered

      other : (n : ℕ) → 21 ≤ n → f.number ≢ n
      other n high e = let low = number_low f.file f.number kind in omega (arith, high, e, low)

      by_kind : ((f.file ≡ Graph) × IsRoadNumber f.number) ⊎ ((f.file ≡ Order) × IsOrderNumber f.number) → ((f.file ≡ Graph) × IsRoadNumber f.number) ⊎ (((f.file ≡ Order) × IsOrderNumber f.number)
          ⊎ (((f.file ≡ Questions) × IsStopOfInput f) ⊎ ((f.file ≡ NoFile) × (f.line ≡ 0) × ((f.number ≡ 3) ⊎ ((f.number ≡ 42) ⊎ (f.number ≡ 43))))))
      by_kind (inl graph) = inl graph
      by_kind (inr own_order) = inr (inl own_order)
