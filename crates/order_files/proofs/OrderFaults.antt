-- The faults of orders have the numbers 10 to 20, what a new parser gives is the text's, and memory
-- may run out before anything is read.
use Rattle.std.proofs.Common.{◌≡◌, ℕ, ◌≤◌, List, [], Bool, Option, Result, Ok, Err, length, subst, arith, if◌then◌else◌, None, Some, refl, inl}
use Rattle.text_lines.specs.declared.faults.ReadFault.{ReadFault}
use Rattle.text_lines.specs.Rules.{◌>>=◌, unless, fault_at, value_of_lines}
use Rattle.text_lines.specs.Streams.{Input}
use Rattle.text_lines.specs.Lines.{lines}
use Rattle.text_lines.specs.Reads.{ReadsText}
use Rattle.std.specs.Io.KnownBytes.{Consumes}
use Rattle.text_lines.specs.Words.{Word}
use Rattle.text_lines.proofs.ParserLaws.{IsOwn, own_then, own_unless, own_if, own_up_to}
use Rattle.graph_text.specs.Numbers.{up_to}
use Rattle.elimination_order.specs.declared.order.Order.{Order}
use Rattle.order_files.specs.declared.order_parser.OrderParser.{OrderParser}
use Rattle.order_files.specs.OrderFiles.{place_taken, order_line, order_end, order_rules}
use Rattle.order_files.specs.OrderTakes.{HasNoted, GivesOrder}

-- no fault, or one of these numbers
abbrev pub IsOfOrder : {A : Type 0} → Result A ℕ → Type 0
IsOfOrder r = IsOwn 10 20 r

fine : {A : Type 0} (x : A) → IsOfOrder (Ok x)
fine x = record { own = tt }

step : {A B : Type 0} (r : Result A ℕ) (f : A → Result B ℕ) → IsOfOrder r → ((x : A) → IsOfOrder (f x)) → IsOfOrder (r >>= f)
step r f h more = own_then 10 20 r f h more

test : {B : Type 0} (b : Bool) (k : ℕ) (f : Unit {0} → Result B ℕ) → 10 ≤ k → k ≤ 20 → IsOfOrder (f tt) → IsOfOrder (unless b k >>= f)
test b k f l g more = own_unless 10 20 b k f l g more

either : {A : Type 0} (b : Bool) (x y : Result A ℕ) → IsOfOrder x → IsOfOrder y → IsOfOrder (if b then x else y)
either b x y p q = own_if 10 20 b x y p q

number : (limit : ℕ) (o : Option ℕ) → IsOfOrder (up_to limit o)
number limit o = own_up_to 10 20 15 16 limit o (omega arith, omega arith) (omega arith, omega arith)

taken : (places : List ℕ) (p : ℕ) → IsOfOrder (place_taken places p)
unfolding place_taken
taken places p = search (arith, test, fine) depth 40

-- a line of an order
pub line_faults : (n : ℕ) (places : List ℕ) (ws : List Word) → IsOfOrder (order_line n places ws)
unfolding order_line
line_faults n places ws = search (arith, step, test, either, number, taken, fine) depth 40

-- its end
pub end_faults : (n : ℕ) (places : List ℕ) → IsOfOrder (order_end n places)
end_faults n places = search (arith, test, fine) depth 40

-- what a new parser gives is the text's by the rules
module _ (s : OrderParser) (none : HasNoted s []) (n : ℕ) (same : s.vertices ≡ n) where
  pub by_value : (cut : Bool) (ls : List (List ℕ)) (order : Order) → GivesOrder cut s 1 ls (Ok order) → value_of_lines cut (order_rules n) 1 [] ls ≡ Ok order.vertices.items
  by_value cut ls order h = subst (λ m. value_of_lines cut (order_rules m) 1 [] ls ≡ Ok order.vertices.items) same (h [] none).0

  pub by_fault : (cut : Bool) (ls : List (List ℕ)) (f : ReadFault) → GivesOrder cut s 1 ls (Err f) → value_of_lines cut (order_rules n) 1 [] ls ≡ Err f
  by_fault cut ls f h = subst (λ m. value_of_lines cut (order_rules m) 1 [] ls ≡ Err f) same (h [] none).0

  pub by_each : (cut : Bool) (ls : List (List ℕ)) (order : Order) → GivesOrder cut s 1 ls (Ok order) → length order.vertices.items ≡ n
  by_each cut ls order h = subst (λ m. length order.vertices.items ≡ m) same (h [] none).1

nothing_taken : (left : Option (List ℕ)) → Consumes left left []
nothing_taken None = tt
nothing_taken (Some all) = refl

-- there is no memory for a parser: nothing was read
pub no_memory : {A X : Type 0} (seen : Input X) (n : ℕ) (view : A → List ℕ) → ReadsText seen seen (order_rules n) view 10 20 (Err (fault_at 0 3))
unfolding lines
no_memory seen n view = record {
  value = tt;
  some_text = tt;
  fault = λ two other. absurd (other refl);
  some_fault = λ two other. absurd (other refl);
  sound = tt;
  told = λ e. absurd (omega (arith, e));
  untold = λ e. refl;
  long = λ e. absurd (omega (arith, e));
  placed = λ few. refl;
  numbered = inl (omega arith, omega arith);
  end = tt;
  asked = omega arith;
  once = λ e. absurd (omega (arith, e));
  before_failure = λ e. absurd (omega (arith, e));
  before_memory = λ e. record {
    before = [];
    last = [];
    taken = nothing_taken seen.left;
    unbroken = ([], refl);
    one_read = omega arith;
    fits = omega arith;
  };
}
