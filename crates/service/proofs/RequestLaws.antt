-- Requests of a text that grows.
use Rattle.std.proofs.Common.{◌≡◌, ℕ, ◌+◌, Bool, true, false, List, [], ◌∷◌, ◌++◌, length, map, refl, ap, ◌∙◌, sym, subst, append_assoc, append-nil, None, Some, inl, inr, ◌⊎◌, arith, eqb-true}
use Rattle.service.proofs.Words.{at_line, lines_first, lines_cut, strip_carriage_return}
use Rattle.std.specs.List.{All, AllByRecursion}
use Rattle.text_lines.specs.Lines.{lines, fields, is_line_end}
use Rattle.std.proofs.lemmas.List.Elements.{All-append}
use Rattle.text_lines.proofs.Splits.{All-one}
use Rattle.service.specs.Replies.{IsNotOutOfMemory}
use Rattle.road_files.specs.ServiceText.{Request, requests, requests_of, state_after_lines, ServiceState, Gives, Passes, Step, begins_request, state_line, refused, service_line, LinesMay}

-- no byte ends a line
abbrev pub IsWithinLine : List ℕ → Type 0
IsWithinLine present = All (λ b. is_line_end b ≡ false) present

-- what these bytes leave open: bytes that follow go on with the last line, which has no end yet
abbrev pub GoesOn : List ℕ → Type 0
GoesOn bytes = (tail : List ℕ) × IsWithinLine tail × ((cut : Bool) (more : List ℕ) → lines cut (bytes ++ more) ≡ lines true bytes ++ lines cut (tail ++ more))

by_byte : (present : List ℕ) (b : ℕ) (bytes : List ℕ) → IsWithinLine present → GoesOn bytes → (IsWithinLine (present ++ b ∷ []) → GoesOn ((present ++ b ∷ []) ++ bytes)) →
    (e : Bool) → is_line_end b ≡ e → GoesOn (present ++ b ∷ bytes)
by_byte present b bytes h ends goes true e =
    let here : b ≡ 10 = eqb-true b 10 e in (
      ends.0,
      ends.1,
      λ cut more. rw (here, append_assoc present (10 ∷ bytes) more, lines_first cut present (bytes ++ more) h, lines_first true present bytes h)
          (ap (λ ls. strip_carriage_return present ∷ ls) (ends.2 cut more)),
    )
by_byte present b bytes h ends goes false e =
    let next = goes (All-append (λ b. is_line_end b ≡ false) present (b ∷ []) h (All-one (λ b. is_line_end b ≡ false) b e)) in
    subst GoesOn (append_assoc present (b ∷ []) bytes) next

none_yet : IsWithinLine []
none_yet = λ k d h. absurd (omega arith)

lines_within : (present bytes : List ℕ) → IsWithinLine present → GoesOn (present ++ bytes)
lines_within present [] h = (present, h, λ cut more. rw (append-nil present, lines_cut present h) refl)
lines_within present (b ∷ bytes) h = by_byte present b bytes h (lines_within [] bytes none_yet) (λ w. lines_within (present ++ b ∷ []) bytes w) (is_line_end b) refl

pub lines_go_on : (bytes : List ℕ) → GoesOn bytes
lines_go_on bytes = lines_within [] bytes none_yet

-- lines after lines
pub requests_go_on : (cut : Bool) (n at : ℕ) (state : ServiceState) (ls more : List (List ℕ))
    → requests_of cut n at state (ls ++ more) ≡ requests_of true n at state ls ++ requests_of cut n (at + length ls) (state_after_lines n state ls) more
requests_go_on cut n at state [] more = ap (λ k. requests_of cut n k state more) (omega arith)
requests_go_on cut n at state (l ∷ ls) more =
    let step = service_line n state (fields l) in
    ap (λ rs. map (at_line at) step.ended ++ rs) (requests_go_on cut n (at + 1) step.next ls more
    ∙ ap (λ k. requests_of true n (at + 1) step.next ls ++ requests_of cut n k (state_after_lines n step.next ls) more) (omega arith))
    ∙ sym (append_assoc (map (at_line at) step.ended) _ _)

pub prefix_first : (cut : Bool) (n : ℕ) (bytes more : List ℕ) → (later : List Request) × (requests cut n (bytes ++ more) ≡ requests true n bytes ++ later)
prefix_first cut n bytes more =
    let (tail, _, e) = lines_go_on bytes in (
      requests_of cut n (1 + length (lines true bytes)) (state_after_lines n (Gives None) (lines true bytes)) (lines cut (tail ++ more)),
      ap (requests_of cut n 1 (Gives None)) (e cut more) ∙ requests_go_on cut n 1 (Gives None) (lines true bytes) (lines cut (tail ++ more)),
    )

-- bytes after an LF are lines of their own
pub line_closed : (cut : Bool) (prefix more : List ℕ) → lines cut ((prefix ++ 10 ∷ []) ++ more) ≡ lines true (prefix ++ 10 ∷ []) ++ lines cut more
line_closed cut prefix more =
    let (tail, within, e) = lines_go_on prefix in
    ap (lines cut) (append_assoc prefix (10 ∷ []) more) ∙ e cut (10 ∷ more) ∙ ap (λ ls. lines true prefix ++ ls) (lines_first cut tail more within)
    ∙ sym (append_assoc (lines true prefix) (strip_carriage_return tail ∷ []) (lines cut more))
    ∙ ap (λ ls. ls ++ lines cut more) (sym (e true (10 ∷ []) ∙ ap (λ ls. lines true prefix ++ ls)
    (lines_first true tail [] within ∙ ap (λ ls. strip_carriage_return tail ∷ ls) (lines_cut [] none_yet))))

first_all : {A : Type 0} (P : A → Type 0) (xs ys : List A) → AllByRecursion P (xs ++ ys) → AllByRecursion P xs × AllByRecursion P ys
first_all P [] ys h = (tt, h)
first_all P (x ∷ xs) ys h = let (p, q) = first_all P xs ys h.1 in ((h.0, p), q)

-- a line that ends no request for want of memory does what the rules say
unrefused : (n at : ℕ) (state : ServiceState) (fs : List (List ℕ)) (b : Bool) → begins_request fs ≡ b →
    AllByRecursion IsNotOutOfMemory (map (at_line at) (state_line (λ _. refused) state fs).ended) → state_line (λ _. refused) state fs ≡ service_line n state fs
unrefused n at Passes fs true e h = absurd ((rw e at h).0 refl)
unrefused n at Passes fs false e h = rw e refl
unrefused n at (Gives None) fs b e h = absurd (h.0 refl)
unrefused n at (Gives (Some q)) fs true e h = absurd ((rw e at h).1.0 refl)
unrefused n at (Gives (Some q)) fs false e h = absurd ((rw e at h).0 refl)

-- where memory is never refused, the requests are those of the text
pub lines_do : (n at : ℕ) (state next : ServiceState) (ls : List (List ℕ)) (rs : List Request) → LinesMay n at state ls rs next → AllByRecursion IsNotOutOfMemory rs →
    (rs ≡ requests_of true n at state ls) × (next ≡ state_after_lines n state ls)
lines_do n at state next [] rs h all = h
lines_do n at state next (l ∷ ls) rs (step, more, may, is, rest) all =
    let (here, later) = first_all IsNotOutOfMemory (map (at_line at) step.ended) more (subst (AllByRecursion IsNotOutOfMemory) is all) in
    let (p, q) = lines_do n (at + 1) step.next next ls more rest later in
    let same : step ≡ service_line n state (fields l) = does may here in (
      is ∙ ap (λ x. map (at_line at) step.ended ++ x) p ∙ ap (λ (s : Step). map (at_line at) s.ended ++ requests_of true n (at + 1) s.next ls) same,
      q
          ∙ ap (λ (s : Step). state_after_lines n s.next ls) same,
    )
  where
    does : (step ≡ service_line n state (fields l)) ⊎ (step ≡ state_line (λ _. refused) state (fields l)) → AllByRecursion IsNotOutOfMemory (map (at_line at) step.ended) →
        step ≡ service_line n state (fields l)
    does (inl e) h = e
    does (inr e) h = e ∙ unrefused n at state (fields l) (begins_request (fields l)) refl (subst (λ (s : Step). AllByRecursion IsNotOutOfMemory (map (at_line at) s.ended)) e h)
