-- A service at the end of its text.
use Rattle.std.proofs.Common.{◌≡◌, ℕ, ◌+◌, min, true, false, List, [], ◌∷◌, ◌++◌, length, map, None, Result, Ok, Err, refl, sym, ap, ◌∙◌, subst, append_assoc, append-nil, length-append, arith, OnOk, OnErr}
use Rattle.service.proofs.Words.{strip_carriage_return, IsPresent, IsLine, at_line, fault_at, WritesText, Asked, parser_state, RequestSoFar, Service, Output}
use Rattle.text_lines.specs.Lines.{lines, has_bytes}
use Rattle.text_lines.proofs.TextLaws.{lines_of_last, lines_of_none}
use Rattle.road_files.specs.ServiceText.{Request, ServiceState, Gives, LinesMay, service_end}
use Rattle.service.specs.Fed.{held_line, fault_text, WasFed, HasLines, HasRequests, LineEnded, LastFed, LastFedPart, Finished, FinishedPart, Replied, RepliedOrFell}
use Rattle.service.proofs.FedLaws.{replied_none, replied_one, replied_then, fell_before}
use Rattle.service.proofs.ServiceLaws.{lines_may_then}

-- the lines of the whole text
all_lines : (t : Service) (fed : List ℕ) (rs : List Request) (h : WasFed t fed rs) → lines false fed ≡ lines true fed ++ lines false h.present
all_lines t fed rs h = ap (lines false) (sym (append-nil fed)) ∙ h.ends false [] ∙ ap (λ (x : List ℕ). lines true fed ++ lines false x) (append-nil h.present)

module _ (answers : Asked → List ℕ → Type 0) (t v u : Service) {X : Type 0} (old new : Output X) where
  -- no line is left
  pub no_last : u.cutter.taker.questions.list.vertices ≡ t.cutter.taker.questions.list.vertices → parser_state u.cutter.taker ≡ parser_state t.cutter.taker → u.line ≡ t.line
      → ((present : List ℕ) → IsPresent RequestSoFar t.cutter present → has_bytes present ≡ false) → LastFed answers t u old old
  no_last same state line none = λ fed rs h.
      let all : lines false fed ≡ lines true fed = all_lines t fed rs h ∙ ap (λ ls. lines true fed ++ ls) (lines_of_none h.present (none h.present h.held)) ∙ append-nil (lines true fed) in
      ([], record { made = rw (same, all, state, append-nil rs) h.made; line = line ∙ h.line ∙ ap (λ (ls : List (List ℕ)). held_line (1 + length ls)) (sym all) }, replied_none answers old)

  -- the last line
  module _ (same : v.cutter.taker.questions.list.vertices ≡ t.cutter.taker.questions.list.vertices) (state : parser_state v.cutter.taker ≡ parser_state t.cutter.taker) (line : v.line ≡ t.line)
      (same_after : u.cutter.taker.questions.list.vertices ≡ v.cutter.taker.questions.list.vertices) (line_after : u.line ≡ min (v.line + 1) 18446744073709551615)
      (last : (present : List ℕ) → IsPresent RequestSoFar t.cutter present → (has_bytes present ≡ true) × IsLine RequestSoFar v.cutter (strip_carriage_return present)) where
    last_taken : {A E : Type 0} (res : Result A E) → ((at : ℕ) (l : List ℕ) → v.line ≡ held_line at → IsLine RequestSoFar v.cutter l → LineEnded answers at l v u old new res)
        → (fed : List ℕ) (rs : List Request) → WasFed t fed rs → (more : List Request) × HasLines u fed (rs ++ more) × RepliedOrFell answers more old new res
    last_taken res did fed rs h =
        let at : ℕ = 1 + length (lines true fed) in
        let l : List ℕ = strip_carriage_return h.present in
        let (some, here) = last h.present h.held in
        let (step, may, next, _, replied) = did at l (line ∙ h.line) here in
        let more : List Request = map (at_line at) step.ended in
        let all : lines false fed ≡ lines true fed ++ l ∷ [] = all_lines t fed rs h ∙ ap (λ ls. lines true fed ++ ls) (lines_of_last h.present some h.held.whole) in
        let count : length (lines false fed) ≡ length (lines true fed) + 1 = ap length all ∙ length-append (lines true fed) (l ∷ []) in (
          more,
          record {
            made = rw (same_after ∙ same, all) (subst (λ (y : ServiceState). LinesMay t.cutter.taker.questions.list.vertices 1 (Gives None) (lines true fed ++ l ∷ []) (rs ++ more) y) next
                (lines_may_then t.cutter.taker.questions.list.vertices 1 (Gives None) (parser_state t.cutter.taker) step.next (lines true fed) (l ∷ []) rs more h.made
                (step, [], rw (same, state) at may, sym (append-nil more), (refl, refl))));
            line = omega (arith, line_after, line ∙ h.line, count);
          },
          replied,
        )

    pub last_line : {A E : Type 0} (res : Result A E) → ((at : ℕ) (l : List ℕ) → v.line ≡ held_line at → IsLine RequestSoFar v.cutter l →
        LineEnded answers at l v u old new res) → OnOk res (LastFed answers t u old new)
    last_line (Err e) did = tt
    last_line {A = A} {E = E} (Ok x) did = last_taken {A = A} {E = E} (Ok x) did

    pub last_fell : {A E : Type 0} (res : Result A E) → ((at : ℕ) (l : List ℕ) → v.line ≡ held_line at → IsLine RequestSoFar v.cutter l →
        LineEnded answers at l v u old new res) → OnErr res (LastFedPart answers t u old new)
    last_fell (Ok x) did = tt
    last_fell {A = A} {E = E} (Err e) did = last_taken {A = A} {E = E} (Err e) did

module _ (answers : Asked → List ℕ → Type 0) where
  -- the request that goes on
  pub end_one : {A E : Type 0} (s : ServiceState) (line : ℕ) {X : Type 0} (old new : Output X) (res : Result A E) → service_end s ≡ Err 19 ∷ [] → WritesText old new (fault_text 19 line) res
      → (at : ℕ) → line ≡ held_line at → RepliedOrFell answers (map (at_line at) (service_end s)) old new res
  end_one s line old new res open_is wrote at e = rw open_is (replied_one answers (Err (fault_at at 19)) (fault_text 19 line) old new res (ap (fault_text 19) e) wrote)

  -- no request goes on
  pub end_none : (s : ServiceState) (at : ℕ) {X : Type 0} (old : Output X) → service_end s ≡ [] → Replied answers (map (at_line at) (service_end s)) old old
  end_none s at old none = rw none (replied_none answers old)

  module _ (t u : Service) {X : Type 0} (old mid new : Output X) (same : u.cutter.taker.questions.list.vertices ≡ t.cutter.taker.questions.list.vertices) where
    finish_taken : {A E : Type 0} (res : Result A E) → LastFed answers t u old mid →
        ((at : ℕ) → u.line ≡ held_line at → RepliedOrFell answers (map (at_line at) (service_end (parser_state u.cutter.taker))) mid new res)
        → (fed : List ℕ) (rs : List Request) → WasFed t fed rs → (more : List Request) × HasRequests t.cutter.taker.questions.list.vertices fed
        (rs ++ more) × RepliedOrFell answers more old new res
    finish_taken res f g fed rs h =
        let (more, all, replied) = f fed rs h in
        let at : ℕ = 1 + length (lines false fed) in
        let last : List Request = map (at_line at) (service_end (parser_state u.cutter.taker)) in (
          more ++ last,
          (rs ++ more, parser_state u.cutter.taker, subst (λ k. LinesMay k 1 (Gives None) (lines false fed) (rs ++ more) (parser_state u.cutter.taker)) same all.made, sym (append_assoc rs more last)),
          replied_then answers more last old mid new res replied (g at all.line),
        )

    pub finish_all : {A E : Type 0} (res : Result A E) → LastFed answers t u old mid →
        ((at : ℕ) → u.line ≡ held_line at → RepliedOrFell answers (map (at_line at) (service_end (parser_state u.cutter.taker))) mid new res) → OnOk res (Finished answers t old new)
    finish_all (Err e) f g = tt
    finish_all {A = A} {E = E} (Ok x) f g = finish_taken {A = A} {E = E} (Ok x) f g

    pub finish_fell : {A E : Type 0} (res : Result A E) → LastFed answers t u old mid →
        ((at : ℕ) → u.line ≡ held_line at → RepliedOrFell answers (map (at_line at) (service_end (parser_state u.cutter.taker))) mid new res) → OnErr res (FinishedPart answers t old new)
    finish_fell (Ok x) f g = tt
    finish_fell {A = A} {E = E} (Err e) f g = finish_taken {A = A} {E = E} (Err e) f g

  -- the last line fell
  pub finish_before : (t u : Service) {X : Type 0} (old new : Output X) → u.cutter.taker.questions.list.vertices ≡ t.cutter.taker.questions.list.vertices →
      LastFedPart answers t u old new → FinishedPart answers t old new
  finish_before t u old new same f = λ fed rs h.
      let (more, all, fell) = f fed rs h in
      let last : List Request = map (at_line (1 + length (lines false fed))) (service_end (parser_state u.cutter.taker)) in (
        more ++ last,
        (
          rs ++ more,
          parser_state u.cutter.taker,
          subst (λ k. LinesMay k 1 (Gives None) (lines false fed) (rs ++ more) (parser_state u.cutter.taker)) same all.made,
          sym (append_assoc rs more last),
        ),
        fell_before answers more last old new fell,
      )
