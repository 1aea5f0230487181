-- A graph's line, as its parser takes it.
use Rattle.graph_text.proofs.Words.{◌≡◌, ℕ, List, [], ◌∷◌, ◌++◌, length, take, map, Bool, refl, sym, ap, ◌∙◌, Option, Some, None, option_map, Ok, Err, arith, subst, GraphData, fields, value_of_lines, Word, word_of, held_word, ne_eqb, lt-ltb, le-ltb, GraphBuilder, RoadsSoFar, gr_arc, gr_line, gr_rules, one_arc}
use Rattle.text_lines.specs.declared.faults.ReadFault.{ReadFault}
use Rattle.text_lines.specs.declared.slots.Slot.{Slot}
use Rattle.text_lines.specs.Slots.{word_in}
use Rattle.text_lines.specs.Takes.{ShowsLine}
use Rattle.text_lines.specs.ShortLines.{HasShortFields}
use Rattle.graph_text.specs.declared.graph_parser.GraphParser.{GraphParser}
use Rattle.graph_text.specs.GraphTakes.{roads_so_far, taken_of, GivesRoads, FitsArc}
use Rattle.graph_text.proofs.RuleLaws.{gr_line_kept, few}

-- the rule of the line is that of its slots
pub line_rule : (s : GraphParser) (slots : List Slot) (l : List ℕ) → ShowsLine slots l → gr_line (taken_of s) (map word_of (fields l)) ≡ gr_line (taken_of s) (map word_in slots)
line_rule s slots l shown = gr_line_kept (taken_of s) (map word_in slots) (fields l) (few s.taken) shown

-- what a new parser gives is the text's by the rules
module _ {G : Type 0} (roads : G → GraphData) (s : GraphParser) (none : taken_of s ≡ None) where
  pub by_value : (cut : Bool) (ls : List (List ℕ)) (v : G) → GivesRoads roads cut s 1 ls (Ok v) → value_of_lines cut gr_rules 1 None ls ≡ Ok (roads v)
  by_value cut ls v h = subst (λ o. value_of_lines cut gr_rules 1 o ls ≡ Ok (roads v)) none h

  pub by_fault : (cut : Bool) (ls : List (List ℕ)) (f : ReadFault) → GivesRoads roads cut s 1 ls (Err f) → value_of_lines cut gr_rules 1 None ls ≡ Err f
  by_fault cut ls f h = subst (λ o. value_of_lines cut gr_rules 1 o ls ≡ Err f) none h

-- an arc line, by its words
arc_line : (o : Option RoadsSoFar) (a b c d : Word) → a.text ≡ 97 ∷ [] → gr_line o (a ∷ b ∷ c ∷ d ∷ []) ≡ gr_arc o (a ∷ b ∷ c ∷ d ∷ [])
unfolding gr_line
arc_line o a b c d is = rw is refl

-- the arc of three numbers
arc_of_numbers : (s : RoadsSoFar) (a b c d : Word) (tail head weight : ℕ) → b.number ≡ Some tail → c.number ≡ Some head → d.number ≡ Some weight → FitsArc s tail head weight
    → one_arc s (a ∷ b ∷ c ∷ d ∷ []) ≡ Ok (record s { arcs = s.arcs ++ record { tail = tail; head = head; weight = weight } ∷ [] })
unfolding one_arc
arc_of_numbers s a b c d tail head weight p q r fits = rw (
  p,
  q,
  r,
  lt-ltb (length s.arcs) s.announced fits.room,
  ne_eqb tail 0 (λ e. omega (arith, e, fits.tail_in.0)),
  ne_eqb head 0 (λ e. omega (arith, e, fits.head_in.0)),
  le-ltb s.vertices tail fits.tail_in.1,
  le-ltb s.vertices head fits.head_in.1,
  le-ltb 4294967295 weight fits.weight_in,
) refl

-- the rule of a line of the letter `a` and three numbers
pub short_rule : (s : GraphParser) (t new : GraphBuilder) (l : List ℕ) (letter tail head weight : ℕ) → s.taken ≡ Some t → letter ≡ 97 → HasShortFields l letter tail head weight →
    FitsArc (roads_so_far t) tail head weight
    → roads_so_far new ≡ record (roads_so_far t) { arcs = t.arcs.items ++ record { tail = tail; head = head; weight = weight } ∷ [] }
    → gr_line (taken_of s) (map word_of (fields l)) ≡ Ok (Some (roads_so_far new))
short_rule s t new l letter tail head weight is a h fits more =
    let kept = map held_word ((letter ∷ []) ∷ h.one ∷ h.two ∷ h.three ∷ []) in
    let shown : kept ≡ take 6 (map held_word (fields l)) = ap (λ fs. take 6 (map held_word fs)) (sym h.is) in
    let arc = arc_of_numbers (roads_so_far t) (held_word (letter ∷ [])) (held_word h.one) (held_word h.two) (held_word h.three) tail head weight h.first_is h.second_is h.third_is fits in
    gr_line_kept (taken_of s) kept (fields l) (few s.taken) shown ∙ arc_line (taken_of s) (held_word (letter ∷ [])) (held_word h.one) (held_word h.two) (held_word h.three) (ap (λ k. k ∷ []) a)
    ∙ ap (λ o. gr_arc (option_map roads_so_far o) kept) is ∙ rw arc (ap (λ x. Ok (Some x)) (sym more))
