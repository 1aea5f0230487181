-- The lines of a text, as its bytes come.
use Rattle.text_lines.proofs.Words.{◌≡◌, ◌≢◌, ℕ, suc, ◌-◌, ◌<◌, List, [], ◌∷◌, ◌++◌, length, take, get_or, Bool, true, false, cond, eqb, ◌||◌, ◌==◌, ◌+◌, refl, sym, ap, ◌∙◌, subst, arith, length-append, strip_carriage_return, slice_split_at, slice_split_none, length-slice_split, All-append, Shows, Scan, scan_on, word_with, is_plain, no_word}
use Rattle.std.specs.List.{slice_split, All}
use Rattle.std.proofs.Math.Seq.{take-append_seam, get_or-append_seam, take-suc, take-length}
use Rattle.std.proofs.lemmas.Bool.{ne_eqb, eqb-true, eqb-false, not-true}
use Rattle.std.proofs.lemmas.List.{get_or-append-add}
use Rattle.text_lines.specs.Lines.{lines, lines_of_parts, is_line_end, has_bytes, is_gap}
use Rattle.text_lines.specs.Cuts.{Holds, ends_in_return}
use Rattle.text_lines.proofs.Splits.{All-one}
use Rattle.text_lines.proofs.ScanLaws.{shows_start, shows_on, shows_run}

pub holds_start : (P : List (List ℕ) → Type 0) → P [] → Holds P false false ([], no_word) []
holds_start P h = record { begun = refl; pending = refl; shown = shows_start P h; whole = λ k d h. absurd (omega arith) }

one_more : (cut : Bool) (present : List ℕ) (parts : List (List ℕ)) → 0 < length parts → lines_of_parts cut (present ∷ parts) ≡ strip_carriage_return present ∷ lines_of_parts cut parts
one_more cut present [] h = absurd (omega arith)
one_more cut present (p ∷ ps) h = refl

-- the first line ends at the first LF
pub lines_first : (cut : Bool) (present rest : List ℕ) → All (λ b. is_line_end b ≡ false) present → lines cut (present ++ 10 ∷ rest) ≡ strip_carriage_return present ∷ lines cut rest
unfolding lines
lines_first cut present rest h = ap (lines_of_parts cut) (slice_split_at is_line_end present 10 rest h refl)
    ∙ one_more cut present (slice_split is_line_end rest) (omega (arith, length-slice_split is_line_end rest))

-- no LF: one line, or none
pub lines_none : lines false [] ≡ []
unfolding lines
lines_none = refl

pub lines_last : (b : ℕ) (present : List ℕ) → All (λ b. is_line_end b ≡ false) (b ∷ present) → lines false (b ∷ present) ≡ strip_carriage_return (b ∷ present) ∷ []
unfolding lines
lines_last b present h = ap (lines_of_parts false) (slice_split_none is_line_end (b ∷ present) h)

-- what is begun is no line of a text that is cut short
pub lines_cut : (present : List ℕ) → All (λ b. is_line_end b ≡ false) present → lines true present ≡ []
unfolding lines
lines_cut present h = ap (lines_of_parts true) (slice_split_none is_line_end present h)

last_place : (xs : List ℕ) (b : ℕ) → length (xs ++ b ∷ []) - 1 ≡ length xs
last_place xs b = omega (arith, length-append xs (b ∷ []))

last-push : (xs : List ℕ) (b : ℕ) → get_or (xs ++ b ∷ []) (length (xs ++ b ∷ []) - 1) 0 ≡ b
last-push xs b = rw (last_place xs b) (get_or-append_seam xs b [] 0)

ends-push : (xs : List ℕ) (b : ℕ) → ends_in_return (xs ++ b ∷ []) ≡ eqb b 13
ends-push xs b = ap (λ x. eqb x 13) (last-push xs b)

strip-return : (xs : List ℕ) → strip_carriage_return (xs ++ 13 ∷ []) ≡ xs
strip-return xs = rw (last_place xs 13, get_or-append_seam xs 13 [] 0) (take-append_seam xs (13 ∷ []))

strip-other : (xs : List ℕ) (b : ℕ) → eqb b 13 ≡ false → strip_carriage_return (xs ++ b ∷ []) ≡ xs ++ b ∷ []
strip-other xs b h = rw (last-push xs b, h) refl

has_bytes-push : (xs : List ℕ) (b : ℕ) → true ≡ has_bytes (xs ++ b ∷ [])
has_bytes-push [] b = refl
has_bytes-push (x ∷ xs) b = refl

whole-push : (xs : List ℕ) (b : ℕ) → All (λ b. is_line_end b ≡ false) xs → b ≢ 10 → All (λ b. is_line_end b ≡ false) (xs ++ b ∷ [])
whole-push xs b h ne = All-append (λ b. is_line_end b ≡ false) xs (b ∷ []) h (All-one (λ b. is_line_end b ≡ false) b (ne_eqb b 10 ne))

last_suc : (xs : List ℕ) → 0 < length xs → suc (length xs - 1) ≡ length xs
last_suc xs h = omega arith

at_end : (xs : List ℕ) → 0 < length xs → ends_in_return xs ≡ true → xs ≡ strip_carriage_return xs ++ 13 ∷ []
at_end xs some h = rw h (sym (take-length xs) ∙ ap (λ n. take n xs) (sym (last_suc xs some)) ∙ take-suc xs (length xs - 1) 0 (omega arith)
    ∙ ap (λ b. take (length xs - 1) xs ++ b ∷ []) (eqb-true (get_or xs (length xs - 1) 0) 13 h))

-- what is before a CR that is pending, and then that CR
restored : (xs : List ℕ) → ends_in_return xs ≡ true → xs ≡ strip_carriage_return xs ++ 13 ∷ []
restored [] h = cc
restored (x ∷ xs) h = at_end (x ∷ xs) (omega arith) h

not_stripped : (xs : List ℕ) → ends_in_return xs ≡ false → strip_carriage_return xs ≡ xs
not_stripped xs h = rw h refl

-- the pending CR is given to the record
pub shows_whole : (P : List (List ℕ) → Type 0) (pending : Bool) (scan : Scan) (xs : List ℕ) → pending ≡ ends_in_return xs → Shows P scan (strip_carriage_return xs) →
    Shows P (cond pending (scan_on scan 13) scan) xs
shows_whole P true scan xs h s = subst (Shows P (scan_on scan 13)) (sym (restored xs (sym h))) (shows_on P scan (strip_carriage_return xs) 13 refl s)
shows_whole P false scan xs h s = subst (Shows P scan) (not_stripped xs (sym h)) s

pub holds_return : (P : List (List ℕ) → Type 0) (scan : Scan) (xs : List ℕ) → Shows P scan xs → All (λ b. is_line_end b ≡ false) xs → Holds P true true scan (xs ++ 13 ∷ [])
holds_return P scan xs s w = record {
  begun = has_bytes-push xs 13;
  pending = sym (ends-push xs 13);
  shown = subst (Shows P scan) (sym (strip-return xs)) s;
  whole = whole-push xs 13 w (λ e. cc);
}

pub holds_other : (P : List (List ℕ) → Type 0) (scan : Scan) (xs : List ℕ) (b : ℕ) → Shows P scan (xs ++ b ∷ []) → All (λ b. is_line_end b ≡ false) xs → b ≢ 10 → b ≢ 13 →
    Holds P true false scan (xs ++ b ∷ [])
holds_other P scan xs b s w ne other = record {
  begun = has_bytes-push xs b;
  pending = sym (ends-push xs b ∙ ne_eqb b 13 other);
  shown = subst (Shows P scan) (sym (strip-other xs b (ne_eqb b 13 other))) s;
  whole = whole-push xs b w ne;
}

or_parts : (x y : Bool) → (x || y) ≡ false → (x ≡ false) × (y ≡ false)
or_parts false y h = (refl, h)
or_parts true y h = cc

plain_parts : (b : ℕ) → is_plain b ≡ true → (is_gap b ≡ false) × (b ≢ 10) × (b ≢ 13)
plain_parts b h =
    let p = or_parts (is_gap b || (b == 10)) (b == 13) (not-true ((is_gap b || (b == 10)) || (b == 13)) h) in
    let q = or_parts (is_gap b) (b == 10) p.0 in
    (q.0, eqb-false b 10 q.1, eqb-false b 13 p.1)

has_bytes-append : (xs : List ℕ) (b : ℕ) (bytes : List ℕ) → true ≡ has_bytes (xs ++ b ∷ bytes)
has_bytes-append [] b bytes = refl
has_bytes-append (x ∷ xs) b bytes = refl

-- the last byte is one of those that were appended
no_return_at_end : (xs bytes : List ℕ) → 0 < length bytes → All (λ b. b ≢ 13) bytes → ends_in_return (xs ++ bytes) ≡ false
no_return_at_end xs bytes some h =
    let place : length (xs ++ bytes) - 1 ≡ length xs + (length bytes - 1) = omega (arith, length-append xs bytes) in
    let last : get_or (xs ++ bytes) (length (xs ++ bytes) - 1) 0 ≡ get_or bytes (length bytes - 1) 0 = ap (λ k. get_or (xs ++ bytes) k 0) place ∙ get_or-append-add xs bytes (length bytes - 1) 0 in
    ap (λ x. eqb x 13) last ∙ ne_eqb (get_or bytes (length bytes - 1) 0) 13 (h (length bytes - 1) 0 (omega arith))

-- a run of bytes that go on with the present field
pub holds_run : (P : List (List ℕ) → Type 0) (scan : Scan) (xs bytes : List ℕ) → 0 < length bytes → All (λ b. is_plain b ≡ true) bytes → Shows P scan xs → All (λ b. is_line_end b ≡ false) xs
    → Holds P true false (scan.0, word_with scan.1 bytes) (xs ++ bytes)
holds_run P scan xs [] some plain s w = absurd (omega arith)
holds_run P scan xs (b ∷ bytes) some plain s w =
    let last : ends_in_return (xs ++ b ∷ bytes) ≡ false = no_return_at_end xs (b ∷ bytes) some (λ k d lt. (plain_parts (get_or (b ∷ bytes) k d) (plain k d lt)).2) in
    record {
      begun = has_bytes-append xs b bytes;
      pending = sym last;
      shown = subst (Shows P (scan.0, word_with scan.1 (b ∷ bytes))) (sym (not_stripped (xs ++ b ∷ bytes) last))
          (shows_run P scan xs (b ∷ bytes) (λ k d lt. (plain_parts (get_or (b ∷ bytes) k d) (plain k d lt)).0) s);
      whole = All-append (λ b. is_line_end b ≡ false) xs (b ∷ bytes) w (λ k d lt. ne_eqb (get_or (b ∷ bytes) k d) 10 (plain_parts (get_or (b ∷ bytes) k d) (plain k d lt)).1);
    }

-- where nothing is begun, the present line is empty
pub nothing : {P : List (List ℕ) → Type 0} (late : Bool) (scan : Scan) (present : List ℕ) → Holds P false late scan present → present ≡ []
nothing late scan [] h = refl
nothing late scan (b ∷ present) h = cc (h.begun)

-- the lines of a text with one line that has no end, and of one with none
pub lines_of_last : (present : List ℕ) → has_bytes present ≡ true → All (λ b. is_line_end b ≡ false) present → lines false present ≡ strip_carriage_return present ∷ []
lines_of_last [] e h = cc
lines_of_last (b ∷ present) e h = lines_last b present h

pub lines_of_none : (present : List ℕ) → has_bytes present ≡ false → lines false present ≡ []
lines_of_none [] e = lines_none
lines_of_none (b ∷ present) e = cc
