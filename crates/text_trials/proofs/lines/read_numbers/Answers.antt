use Rattle.std.proofs.Common.{◌≡◌, ℕ, List, [], Bool, Vec, Ok, Err, subst}
use Rattle.std.specs.declared.alloc.Global.{Global}
use Rattle.text_lines.specs.declared.faults.ReadFault.{ReadFault}
use Rattle.text_lines.specs.Rules.{value_of_lines}
use Rattle.text_lines.specs.Takes.{GivesBy}
use Rattle.text_lines.specs.Meaning.{Meaning}
use Rattle.text_lines.proofs.ParserLaws.{reads_value, reads_fault}
use Rattle.text_trials.specs.Numbers.{numbers_rules}
use Rattle.text_trials.proofs.lines.read_numbers.Goals as goal

-- the numbers so far are all that a line needs to know
abbrev meaning : Meaning (List ℕ) (Vec ℕ Global)
meaning = record { gives = λ cut ns at ls r. GivesBy numbers_rules ns (λ v. v.items) cut at ls r; so_far = λ _ _. Unit {0} }

value_from : (ns : List ℕ) → ns ≡ [] → (cut : Bool) (ls : List (List ℕ)) (v : Vec ℕ Global) → value_of_lines cut numbers_rules 1 ns ls ≡ Ok v.items →
    value_of_lines cut numbers_rules 1 [] ls ≡ Ok v.items
value_from ns none cut ls v h = subst (λ (start : List ℕ). value_of_lines cut numbers_rules 1 start ls ≡ Ok v.items) none h

fault_from : (ns : List ℕ) → ns ≡ [] → (cut : Bool) (ls : List (List ℕ)) (f : ReadFault) → value_of_lines cut numbers_rules 1 ns ls ≡ Err f → value_of_lines cut numbers_rules 1 [] ls ≡ Err f
fault_from ns none cut ls f h = subst (λ (start : List ℕ). value_of_lines cut numbers_rules 1 start ls ≡ Err f) none h

pub returns-clause-value : goal.returns-clause-value
returns-clause-value g c = let ns = c.new.result.items in let none = c.new.ensures.items in
    reads_value numbers_rules (λ v. v.items) meaning ns (value_from ns none) (fault_from ns none) (g.R.RoadRead.seen c.args.from.now).left c.read_whole.result c.read_whole.ensures.value

pub returns-clause-fault : goal.returns-clause-fault
returns-clause-fault g c = let ns = c.new.result.items in let none = c.new.ensures.items in
    reads_fault numbers_rules (λ v. v.items) meaning ns (value_from ns none) (fault_from ns none) (g.R.RoadRead.seen c.args.from.now).left c.read_whole.result c.read_whole.ensures.fault
