-- What is kept of a line is enough for the small kind of text of the tests.
use Rattle.std.proofs.Common.{◌≡◌, ℕ, List, map, Option, Some, None, min, option_map, codes, refl, sym, arith, lit<}
use Rattle.std.proofs.lemmas.Grind.{common_steps}
use Rattle.text_lines.specs.declared.slots.Slot.{Slot}
use Rattle.text_lines.specs.Lines.{fields}
use Rattle.text_trials.specs.Numbers.{below_top, numbers_line, numbers_rules}
use Rattle.text_lines.specs.Slots.{word_in}
use Rattle.text_lines.specs.Takes.{ShowsLine}
use Rattle.text_lines.specs.Words.{Word, word_of, word_at}
use Rattle.text_lines.proofs.WordLaws.{Keeps, keeps, short_word}

below_top_held : (o : Option ℕ) → below_top (option_map (λ n. min n 18446744073709551616) o) ≡ below_top o
below_top_held None = refl
below_top_held (Some n) = grind (arith, common_steps)

line_held : (kept ws : List Word) (ns : List ℕ) → Keeps kept ws → numbers_line ns kept ≡ numbers_line ns ws
unfolding numbers_line
line_held kept ws ns k = rw (
  k.count 0 (lit< tt),
  k.count 2 (lit< tt),
  k.word 0 (lit< tt),
  k.word 1 (lit< tt),
  short_word (word_at 0 ws).text (codes "n") (lit< tt),
  below_top_held (word_at 1 ws).number,
) refl

-- the rule of a line, seen in the slots that show it
pub rule_of_line : (ns : List ℕ) (slots : List Slot) (l : List ℕ) → ShowsLine slots l → numbers_rules.line ns (fields l) ≡ numbers_line ns (map word_in slots)
rule_of_line ns slots l shown = sym (line_held (map word_in slots) (map word_of (fields l)) ns (keeps (map word_in slots) (fields l) shown))
