-- What slots show, when the present one is emptied.
use Rattle.std.proofs.Common.{◌≡◌, ℕ, ◌+◌, ◌<◌, ◌≤◌, List, [], ◌∷◌, ◌++◌, length, take, map, get_or, set, refl, arith}
use Rattle.std.proofs.lemmas.List.{map-set, take-set, get_or-set_same, take_more, length-map, length-take-le}
use Rattle.text_lines.specs.declared.slots.Slot.{Slot}
use Rattle.text_lines.proofs.Words.{Scan, word_in, no_word}

-- the scan that the first k slots and the one after them show
abbrev pub scan_at : List Slot → ℕ → Scan
scan_at ss k = let words = map word_in ss in (take k words, get_or words k no_word)

pub dropped : (ss : List Slot) (k : ℕ) (d : Slot) → k < length ss → word_in d ≡ no_word → scan_at (set ss k d) k ≡ (take k (map word_in ss), no_word)
dropped ss k d lt is =
    let within : k < length (map word_in ss) = omega (arith, lt, length-map ss word_in) in
    rw (map-set word_in ss k d, take-set (map word_in ss) k (word_in d), get_or-set_same (map word_in ss) k (word_in d) no_word within, is) refl

pub kept : (ss : List Slot) (k : ℕ) (d : Slot) → k + 1 < length ss → word_in d ≡ no_word →
    scan_at (set ss (k + 1) d) (k + 1) ≡ (take k (map word_in ss) ++ get_or (map word_in ss) k no_word ∷ [], no_word)
kept ss k d lt is =
    let within : k + 1 < length (map word_in ss) = omega (arith, lt, length-map ss word_in) in
    let before : k < length (map word_in ss) = omega (arith, within) in
    rw (
      map-set word_in ss (k + 1) d,
      take-set (map word_in ss) (k + 1) (word_in d),
      get_or-set_same (map word_in ss) (k + 1) (word_in d) no_word within,
      take_more
          (map word_in ss) k no_word before,
      is,
    ) refl

pub words_count : (ss : List Slot) (k : ℕ) → k ≤ length ss → length (take k (map word_in ss)) ≡ k
words_count ss k le = length-take-le k (map word_in ss) (omega (arith, le, length-map ss word_in))
