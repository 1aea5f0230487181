-- A line of an order and the end, as the parser takes them.
use Rattle.std.proofs.Common.{◌≡◌, ℕ, ◌+◌, ◌-◌, ◌<◌, ◌≤◌, List, ◌∷◌, length, map, Bool, Result, Ok, Err, ◌∙◌, sym, ap, refl, subst, arith, lit<}
use Rattle.std.specs.Result.{OnOk, IfOk}
use Rattle.std.specs.List.{range_with_len}
use Rattle.std.proofs.lemmas.Bool.{le-ltb}
use Rattle.std.proofs.lemmas.List.{ext_get_or, get_or-map}
use Rattle.std.proofs.lemmas.List.FromFn.{get_or-range_with_len, length-range_with_len, length-map-range_with_len}
use Rattle.text_lines.specs.declared.faults.LineFault.{LineFault}
use Rattle.text_lines.specs.declared.faults.LineFault.TheVariants.{Broken}
use Rattle.text_lines.specs.declared.faults.ReadFault.{ReadFault}
use Rattle.text_lines.specs.declared.faults.Rule.{Rule}
use Rattle.text_lines.specs.declared.slots.Slot.{Slot}
use Rattle.text_lines.specs.Lines.{fields}
use Rattle.text_lines.specs.Rules.{fault_at}
use Rattle.text_lines.specs.Slots.{word_in}
use Rattle.text_lines.specs.Takes.{ShowsLine, GivesBy}
use Rattle.text_lines.specs.Words.{Word, word_of, word_at}
use Rattle.text_lines.proofs.ParserLaws.{gives_taken, gives_broken, broken_is}
use Rattle.text_lines.proofs.WordLaws.{Keeps, keeps, first_byte, number_held}
use Rattle.elimination_order.specs.declared.order.Order.{Order}
use Rattle.order_files.specs.declared.order_parser.OrderParser.{OrderParser}
use Rattle.order_files.specs.OrderFiles.{vertex_placed, order_of, order_line, order_end, order_rules}
use Rattle.order_files.specs.OrderTakes.{HasNoted, Takes, GivesOrder}

abbrev view : Order → List ℕ
view order = order.vertices.items

-- what is kept of a line is enough
line_held : (n : ℕ) (places : List ℕ) (kept ws : List Word) → Keeps kept ws → n - 1 < 18446744073709551616 → order_line n places kept ≡ order_line n places ws
unfolding order_line
line_held n places kept ws k small = rw (
  k.count 0 (lit< tt),
  k.count 1 (lit< tt),
  k.word 0 (lit< tt),
  first_byte (word_at 0 ws).text,
  number_held 15 16 (n - 1) (word_at 0 ws).number small,
) refl

module _ (old new : OrderParser) (slots : List Slot) (same : new.vertices ≡ old.vertices) where
  line_rule : (places l : List ℕ) → ShowsLine slots l → order_line old.vertices places (map word_of (fields l)) ≡ order_line old.vertices places (map word_in slots)
  line_rule places l shown = sym (line_held old.vertices places (map word_in slots) (map word_of (fields l)) (keeps (map word_in slots) (fields l) shown) (omega (arith, old.order.few, old.whole)))

  -- the parser has taken a line, or says why not
  abbrev HasTaken : Result (Unit {0}) LineFault → Type 0
  HasTaken r = (places : List ℕ) → HasNoted old places → Takes (order_line old.vertices places (map word_in slots)) new r

  pub line_ok : (r : Result (Unit {0}) LineFault) → HasTaken r → OnOk r ((cut : Bool) (at : ℕ) (l : List ℕ) (rest : List (List ℕ)) (v : Result Order ReadFault) →
      ShowsLine slots l → Unit {0} → GivesOrder cut new (at + 1) rest v → GivesOrder cut old at (l ∷ rest) v)
  line_ok (Err e) taken = tt
  line_ok (Ok x) taken = λ cut at l rest v shown _ g places noted.
      let t = taken places noted in
      let more = g t.0 t.2 in
      subst (λ n. (order_line n places (map word_of (fields l)) ≡ Ok t.0) → GivesBy (order_rules n) places view cut at (l ∷ rest) v × IfOk v (λ order. length order.vertices.items ≡ n)) same
      (λ e. (gives_taken (order_rules new.vertices) view places t.0 cut at l rest v e more.0, more.1)) (line_rule places l shown ∙ t.1)

  pub line_broken : (r : Result (Unit {0}) LineFault) → HasTaken r → (rule : Rule) → r ≡ Err (Broken rule) → (cut : Bool) (at : ℕ) (l : List ℕ) (rest : List (List ℕ)) →
      ShowsLine slots l → Unit {0} → GivesOrder cut old at (l ∷ rest) (Err (fault_at at rule.number))
  line_broken (Ok x) taken rule is = absurd (cc)
  line_broken (Err e) taken rule is = λ cut at l rest shown _ places noted.
      (gives_broken (order_rules old.vertices) view places cut at l rest rule.number (line_rule places l shown ∙ broken_is _ e rule is (taken places noted)), tt)

module _ (s : OrderParser) (places : List ℕ) (noted : HasNoted s places) where
  abbrev range : List ℕ
  range = range_with_len 0 s.vertices

  -- the parser has the vertices by their places
  pub order_is : s.order.vertices.items ≡ order_of s.vertices places
  order_is = ext_get_or 0 s.order.vertices.items (order_of s.vertices places) (s.whole ∙ sym (length-map-range_with_len (vertex_placed places) 0 s.vertices))
      (λ i low. noted.placed i ∙ sym (get_or-map (vertex_placed places) range i 0 0 (omega (arith, low, s.whole, length-range_with_len 0 s.vertices))
      ∙ ap (vertex_placed places) (get_or-range_with_len 0 s.vertices i 0 (omega (arith, low, s.whole)) ∙ omega arith)))

  -- at the end these are the vertices in their order
  pub ends : s.vertices ≤ s.order.count → order_end s.vertices places ≡ Ok s.order.vertices.items
  ends all = rw (le-ltb (length places) s.vertices (omega (arith, all, noted.count))) (ap Ok (sym order_is))
