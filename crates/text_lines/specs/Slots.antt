-- The words that slots show.
use Rattle.text_lines.specs.declared.slots.Slot.{Slot}
use Rattle.text_lines.specs.Words.{Word}

-- the word that a slot shows
abbrev pub word_in : Slot → Word
word_in s = record { text = s.text.items; number = s.number }
