-- A service that goes on through its text.
use Rattle.service.proofs.Words.{◌≡◌, ℕ, ◌+◌, min, Bool, true, false, cond, not, drop, List, [], ◌∷◌, ◌++◌, length, take, map, None, Result, Ok, Err, refl, sym, ap, ◌∙◌, subst, append_assoc, append-nil, length-append, take-append-drop, length-drop, ◌<◌, inl, inr, arith, strip_carriage_return, IsPresent, IsLine, EndsLine, StaysInLine, lines, fields, at_line, Asked, parser_state, RequestSoFar, lines_first, lines_cut, Service, Output}
use Rattle.road_files.specs.RequestTakes.{ended_of, ended_list}
use Rattle.std.proofs.lemmas.Bool.{not-false}
use Rattle.std.proofs.lemmas.List.{append_cancel_left}
use Rattle.road_files.specs.declared.request_parser.LineDone.{LineDone}
use Rattle.road_files.specs.ServiceText.{Request, ServiceState, Gives, Step, LineMay, LinesMay}
use Rattle.service.specs.Fed.{held_line, WasFed, IsUnfinished, goes_on, counts_anew, LinesGoOn, LineEnded, Fed, FedPart, FedLong, RepliedOrFell}
use Rattle.service.proofs.FedLaws.{replied_none, replied_then}

pub ended_early : (d : LineDone) → not d.early ≡ false → ended_of d ≡ Err 19 ∷ ended_list d.ended
ended_early d h = ap (λ (b : Bool). cond b (Err 19 ∷ ended_list d.ended) (ended_list d.ended)) (not-false d.early h)

-- lines after lines
pub lines_may_then : (n at : ℕ) (s m t : ServiceState) (ls ms : List (List ℕ)) (rs qs : List Request) → LinesMay n at s ls rs m → LinesMay n (at + length ls) m ms qs t →
    LinesMay n at s (ls ++ ms) (rs ++ qs) t
lines_may_then n at s m t [] ms rs qs (p, q) h =
    let same : at + length {A = List ℕ} [] ≡ at = omega arith in
    rw p (subst (λ x. LinesMay n at x ms qs t) q (subst (λ k. LinesMay n k m ms qs t) same h))
lines_may_then n at s m t (l ∷ ls) ms rs qs (step, more, may, is, rest) h =
    let same : at + length (l ∷ ls) ≡ (at + 1) + length ls = omega arith in (
      step,
      more ++ qs,
      may,
      ap (λ x. x ++ qs) is ∙ append_assoc (map (at_line at) step.ended) more qs,
      lines_may_then n (at + 1) step.next m t ls ms more qs rest
          (subst (λ k. LinesMay n k m ms qs t) same h),
    )

no_lines : lines true [] ≡ []
no_lines = lines_cut [] (λ k d h. absurd (omega arith))

-- no byte was taken
pub fresh : (s : Service) → parser_state s.cutter.taker ≡ Gives None → s.line ≡ 1 → s.count ≡ 0 → IsPresent RequestSoFar s.cutter [] → WasFed s [] []
fresh s state line count held = record {
  made = rw no_lines (refl, state);
  line = rw no_lines line;
  own = [];
  is_open = record {
    before = [];
    fed_is = refl;
    closed = λ cut more. rw no_lines refl;
    from = Gives None;
    begins = inl (refl, refl);
    made = rw no_lines (refl, refl);
    goes = rw no_lines state;
  };
  count = count;
  present = [];
  ends = λ cut more. rw no_lines refl;
  held = held;
}

-- what bytes add to the lines of the text, they add to those of a request that goes on
own_lines : (n : ℕ) (fed bytes : List ℕ) (rs : List Request) (state : ServiceState) (own : List ℕ) (o : IsUnfinished n fed rs state own) (ls : List (List ℕ)) →
    lines true (fed ++ bytes) ≡ lines true fed ++ ls → lines true (own ++ bytes) ≡ lines true own ++ ls
own_lines n fed bytes rs state own o ls e = append_cancel_left (lines true o.before) (lines true (own ++ bytes)) (lines true own ++ ls)
    (sym (o.closed true (own ++ bytes)) ∙ ap (lines true) (sym (append_assoc o.before own bytes) ∙ ap (λ x. x ++ bytes) (sym o.fed_is)) ∙ e
    ∙ ap (λ x. x ++ ls) (ap (lines true) o.fed_is ∙ o.closed true own) ∙ append_assoc (lines true o.before) (lines true own) ls)

-- one line more
lines_go_on_then : (n : ℕ) (s m t : ServiceState) (ls : List (List ℕ)) (l : List ℕ) → LinesGoOn n s ls m → goes_on t ≡ true →
    LineMay n m (fields l) (record { ended = []; next = t }) → LinesGoOn n s (ls ++ l ∷ []) t
lines_go_on_then n s m t [] l e goes may = (t, goes, subst (λ x. LineMay n x (fields l) (record { ended = []; next = t })) e may, refl)
lines_go_on_then n s m t (k ∷ ls) l (mid, on, did, rest) goes may = (mid, on, did, lines_go_on_then n mid m t ls l rest goes may)

goes_further : (ended : List (Result Asked ℕ)) (next : ServiceState) → counts_anew ended next ≡ false → (ended ≡ []) × (goes_on next ≡ true)
goes_further [] next h = (refl, not-false (goes_on next) h)
goes_further (e ∷ es) next h = cc

-- after a line
open_after : (n at : ℕ) (fed bytes : List ℕ) (rs : List Request) (old : ServiceState) (own : List ℕ) (o : IsUnfinished n fed rs old own)
    (fed_made : LinesMay n 1 (Gives None) (lines true fed) rs old) (l : List ℕ) (step : Step) (c d : ℕ) → lines true (fed ++ bytes) ≡ lines true fed ++ l ∷ []
    → ((cut : Bool) (more : List ℕ) → lines cut ((fed ++ bytes) ++ more) ≡ lines true (fed ++ bytes) ++ lines cut more) → LineMay n old (fields l) step
    → LinesMay n 1 (Gives None) (lines true (fed ++ bytes)) (rs ++ map (at_line at) step.ended) step.next → c ≡ length (own ++ bytes) → (b : Bool) →
    counts_anew step.ended step.next ≡ b → d ≡ cond b 0 c
    → (now : List ℕ) × IsUnfinished n (fed ++ bytes) (rs ++ map (at_line at) step.ended) step.next now × (d ≡ length now)
open_after n at fed bytes rs old own o fed_made l step c d all closed may made is true anew count = (
  [],
  record {
    before = fed ++ bytes;
    fed_is = sym (append-nil (fed ++ bytes));
    closed = closed;
    from = step.next;
    begins = inr (record { ls = lines true fed; l = l; rs = rs; state = old; ended = step.ended; lines_are = all; made = fed_made; may = may; anew = anew });
    made = made;
    goes = rw no_lines refl;
  },
  count,
)
open_after n at fed bytes rs old own o fed_made l step c d all closed may made is false anew count =
    let (none, goes) = goes_further step.ended step.next anew in (
      own ++ bytes,
      record {
        before = o.before;
        fed_is = ap (λ x. x ++ bytes) o.fed_is ∙ append_assoc o.before own bytes;
        closed = o.closed;
        from = o.from;
        begins = o.begins;
        made = subst (λ (qs : List Request). LinesMay n 1 (Gives None) (lines true o.before) qs o.from)
            (sym (append-nil rs) ∙ ap (λ (e : List (Result Asked ℕ)). rs ++ map (at_line at) e) (sym none)) o.made;
        goes = rw (own_lines n fed bytes rs old own o (l ∷ []) all)
            (lines_go_on_then n o.from old step.next (lines true own) l o.goes goes
            (subst (λ (e : List (Result Asked ℕ)). LineMay n old (fields l) (record { ended = e; next = step.next })) none may));
      },
      count ∙ is,
    )

module _ (t u : Service) (same : u.cutter.taker.questions.list.vertices ≡ t.cutter.taker.questions.list.vertices)
    (state : parser_state u.cutter.taker ≡ parser_state t.cutter.taker) (line : u.line ≡ t.line) where
  -- bytes that go on with the line
  pub taken_stay : (fed bytes : List ℕ) (rs : List Request) (n : ℕ) → WasFed t fed rs → StaysInLine RequestSoFar t.cutter u.cutter bytes n → u.count ≡ t.count + length bytes →
      WasFed u (fed ++ bytes) rs
  taken_stay fed bytes rs n h stay counted =
      let held : IsPresent RequestSoFar u.cutter (h.present ++ bytes) = stay.present h.present h.held in
      let none : lines true (fed ++ bytes) ≡ lines true fed = h.ends true bytes ∙ ap (λ ls. lines true fed ++ ls) (lines_cut (h.present ++ bytes) held.whole) ∙ append-nil (lines true fed) in
      record {
        made = rw (same, none, state) h.made;
        line = line ∙ h.line ∙ ap (λ (ls : List (List ℕ)). held_line (1 + length ls)) (sym none);
        own = h.own ++ bytes;
        is_open = record {
          before = h.is_open.before;
          fed_is = ap (λ x. x ++ bytes) h.is_open.fed_is ∙ append_assoc h.is_open.before h.own bytes;
          closed = h.is_open.closed;
          from = h.is_open.from;
          begins = rw same h.is_open.begins;
          made = rw same h.is_open.made;
          goes = rw (
            same,
            own_lines t.cutter.taker.questions.list.vertices fed bytes rs (parser_state t.cutter.taker) h.own h.is_open [] (none ∙ sym (append-nil (lines true fed)))
                ∙ append-nil (lines true h.own),
            state,
          ) h.is_open.goes;
        };
        count = counted ∙ omega (arith, h.count, length-append h.own bytes);
        present = h.present ++ bytes;
        ends = λ cut more. ap (lines cut) (append_assoc fed bytes more) ∙ h.ends cut (bytes ++ more)
            ∙ ap (λ ls. lines true fed ++ ls) (ap (lines cut) (sym (append_assoc h.present bytes more))) ∙ ap (λ ls. ls ++ lines cut ((h.present ++ bytes) ++ more)) (sym none);
        held = held;
      }

module _ (answers : Asked → List ℕ → Type 0) (t v u : Service) {X : Type 0} (old new : Output X)
    (same : v.cutter.taker.questions.list.vertices ≡ t.cutter.taker.questions.list.vertices) (state : parser_state v.cutter.taker ≡ parser_state t.cutter.taker) (line : v.line ≡ t.line)
    (same_after : u.cutter.taker.questions.list.vertices ≡ v.cutter.taker.questions.list.vertices) (line_after : u.line ≡ min (v.line + 1) 18446744073709551615)
    (ready : IsPresent RequestSoFar u.cutter []) where
  -- bytes that end the line
  pub taken_line : {A E : Type 0} (res : Result A E) (fed bytes : List ℕ) (rs : List Request) → v.count ≡ t.count + length bytes → WasFed t fed rs → EndsLine RequestSoFar t.cutter v.cutter bytes
      → ((at : ℕ) (l : List ℕ) → v.line ≡ held_line at → IsLine RequestSoFar v.cutter l → LineEnded answers at l v u old new res)
      → (more : List Request) × WasFed u (fed ++ bytes) (rs ++ more) × RepliedOrFell answers more old new res
  taken_line res fed bytes rs counted h cut did =
      let at : ℕ = 1 + length (lines true fed) in
      let l : List ℕ = strip_carriage_return (h.present ++ cut.prefix) in
      let (step, may, next, counts, replied) = did at l (line ∙ h.line) (cut.line h.present h.held) in
      let more : List Request = map (at_line at) step.ended in
      let first : (c : Bool) (after : List ℕ) → lines c (h.present ++ (bytes ++ after)) ≡ l ∷ lines c after =
      λ c after. ap (λ x. lines c (h.present ++ (x ++ after))) cut.ends ∙ ap (λ x. lines c (h.present ++ x)) (append_assoc cut.prefix (10 ∷ []) after)
      ∙ ap (lines c) (sym (append_assoc h.present cut.prefix (10 ∷ after))) ∙ lines_first c (h.present ++ cut.prefix) after (cut.within h.present h.held) in
      let all : lines true (fed ++ bytes) ≡ lines true fed ++ l ∷ [] =
      h.ends true bytes ∙ ap (λ ls. lines true fed ++ ls) (ap (λ x. lines true (h.present ++ x)) (sym (append-nil bytes)) ∙ first true [] ∙ ap (λ ls. l ∷ ls) no_lines) in
      let count : length (lines true (fed ++ bytes)) ≡ length (lines true fed) + 1 = ap length all ∙ length-append (lines true fed) (l ∷ []) in
      let whole : LinesMay t.cutter.taker.questions.list.vertices 1 (Gives None) (lines true (fed ++ bytes)) (rs ++ more) step.next =
      rw all (lines_may_then t.cutter.taker.questions.list.vertices 1 (Gives None) (parser_state t.cutter.taker) step.next (lines true fed) (l ∷ []) rs more h.made
      (step, [], rw (same, state) at may, sym (append-nil more), (refl, refl))) in
      let closed : (c : Bool) (after : List ℕ) → lines c ((fed ++ bytes) ++ after) ≡ lines true (fed ++ bytes) ++ lines c after =
      λ c after.
      ap (lines c) (append_assoc fed bytes after) ∙ h.ends c (bytes ++ after) ∙ ap (λ ls. lines true fed ++ ls) (first c after)
      ∙ sym (append_assoc (lines true fed) (l ∷ []) (lines c after)) ∙ ap (λ ls. ls ++ lines c after) (sym all) in
      let behind = open_after t.cutter.taker.questions.list.vertices at fed bytes rs
      (parser_state t.cutter.taker) h.own h.is_open h.made l step v.count u.count all closed (rw (same, state) at may) whole
      (counted ∙ omega (arith, h.count, length-append h.own bytes)) (counts_anew step.ended step.next) refl counts in (
        more,
        record {
          made = rw (same_after ∙ same, ← next) whole;
          line = omega (arith, line_after, line ∙ h.line, count);
          own = behind.0;
          is_open = rw (same_after ∙ same, ← next) behind.1;
          count = behind.2;
          present = [];
          ends = closed;
          held = ready;
        },
        replied,
      )

-- a piece that is fed
pub fed_none : (answers : Asked → List ℕ → Type 0) (s : Service) {X : Type 0} (old : Output X) → Fed answers s s [] old old
fed_none answers s old = λ fed rs h. ([], rw (append-nil fed, append-nil rs) h, replied_none answers old)

pub fed_stay : (answers : Asked → List ℕ → Type 0) (s t u : Service) (whole xs ys : List ℕ) (n : ℕ) {X : Type 0} (old mid : Output X) →
    u.cutter.taker.questions.list.vertices ≡ t.cutter.taker.questions.list.vertices
    → parser_state u.cutter.taker ≡ parser_state t.cutter.taker → u.line ≡ t.line → u.count ≡ t.count + length ys → whole ≡ xs ++ ys → Fed answers s t xs old mid →
    StaysInLine RequestSoFar t.cutter u.cutter ys n → Fed answers s u whole old mid
fed_stay answers s t u whole xs ys n old mid same state line counted e f stay = λ fed rs h.
    let (more, taken, replied) = f fed rs h in (
      more,
      subst (λ (x : List ℕ). WasFed u x (rs ++ more)) (append_assoc fed xs ys ∙ ap (λ x. fed ++ x) (sym e))
          (taken_stay t u same state line (fed ++ xs) ys (rs ++ more) n taken stay counted),
      replied,
    )

abbrev pub Done : Result (Unit {0}) (Unit {0})
Done = Ok tt

abbrev pub Failed : Result (Unit {0}) (Unit {0})
Failed = Err tt

-- a piece and then bytes that end a line
module _ (answers : Asked → List ℕ → Type 0) (s t v u : Service) (xs ys : List ℕ) {X : Type 0} (old mid new : Output X)
    (same : v.cutter.taker.questions.list.vertices ≡ t.cutter.taker.questions.list.vertices) (state : parser_state v.cutter.taker ≡ parser_state t.cutter.taker) (line : v.line ≡ t.line)
    (same_after : u.cutter.taker.questions.list.vertices ≡ v.cutter.taker.questions.list.vertices) (line_after : u.line ≡ min (v.line + 1) 18446744073709551615)
    (ready : IsPresent RequestSoFar u.cutter []) (counted : v.count ≡ t.count + length ys) (f : Fed answers s t xs old mid) (cut : EndsLine RequestSoFar t.cutter v.cutter ys) where
  fed_to : {A E : Type 0} (res : Result A E) → ((at : ℕ) (l : List ℕ) → v.line ≡ held_line at → IsLine RequestSoFar v.cutter l → LineEnded answers at l v u mid new res)
      → (fed : List ℕ) (rs : List Request) → WasFed s fed rs → (more : List Request) × WasFed u (fed ++ (xs ++ ys)) (rs ++ more) × RepliedOrFell answers more old new res
  fed_to res did fed rs h =
      let (more, taken, replied) = f fed rs h in
      let (next, further, after) = taken_line answers t v u mid new same state line same_after line_after ready res (fed ++ xs) ys (rs ++ more) counted taken cut did in (
        more ++ next,
        subst (λ (x : List ℕ). WasFed u x (rs ++ (more ++ next))) (append_assoc fed xs ys) (subst (λ (x : List Request). WasFed u ((fed ++ xs) ++ ys) x) (append_assoc rs more next) further),
        replied_then answers more next old mid new res replied after,
      )

  pub fed_line : ((at : ℕ) (l : List ℕ) → v.line ≡ held_line at → IsLine RequestSoFar v.cutter l → LineEnded answers at l v u mid new Done) → Fed answers s u (xs ++ ys) old new
  fed_line did = fed_to Done did

  -- a write fails in the replies to what ends with the line
  pub fed_part : (all zs : List ℕ) → all ≡ (xs ++ ys) ++ zs → ((at : ℕ) (l : List ℕ) → v.line ≡ held_line at → IsLine RequestSoFar v.cutter l → LineEnded answers at l v u mid new Failed)
      → FedPart answers s u all old new
  fed_part all zs is did = λ fed rs h. let (more, taken, fell) = fed_to Failed did fed rs h in (xs ++ ys, zs, more, is, taken, fell)

-- no more bytes fit
pub fed_long : (answers : Asked → List ℕ → Type 0) (s t : Service) (all : List ℕ) (k : ℕ) {X : Type 0} (old mid : Output X) → k < length all → t.count ≡ 4294967296 →
    Fed answers s t (take k all) old mid → FedLong answers s t all old mid
fed_long answers s t all k old mid lt full f = λ fed rs h.
    let (more, taken, replied) = f fed rs h in
    (take k all, drop k all, more, sym (take-append-drop k all), omega (arith, length-drop k all), taken, full, replied)
