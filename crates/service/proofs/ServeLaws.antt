-- A service that goes on through its input, and a watcher that is told of its reads.
use Rattle.service.proofs.Words.{◌≡◌, ℕ, ◌+◌, true, List, [], ◌++◌, Option, None, Some, refl, sym, ap, ◌∙◌, subst, append_assoc, append-nil, inl, inr, arith, ◌∷◌, length, length-append, Asked, lines, parser_state, Service, lines_cut, Output, Input, Request, Gives, LinesMay}
use Rattle.std.specs.Io.KnownBytes.{Consumes, IsAtEnd, Keeps, Appends}
use Rattle.std.proofs.KnownBytes.{Consumes-kept, Consumes-nil, Consumes-trans, Consumes-whole, Appends-nil}
use Rattle.service.specs.Fed.{WasFed, IsUnfinished, HasRequests, MakesWhole, BeginsWith, Fed, FedPart, FedLong, Finished, FinishedPart, HasServed, Served, ServedSoFar, ServedUntilTooLong, ServedPart, Replied, FellIn}
use Rattle.service.proofs.FedLaws.{replied_then}
use Rattle.service.proofs.ServiceLaws.{Done, Failed}
use Rattle.service.specs.Reading.{ReadMoment, IsReadMoment, AreReadMoments, FollowsReads, ToldReads}

kept_first : (a b c : Option (List ℕ)) (x : List ℕ) → Keeps a b → Appends b c x → Appends a c x
kept_first None b c x k p = tt
kept_first (Some a) None c x k p = absurd k
kept_first (Some a) (Some b) None x k p = absurd p
kept_first (Some a) (Some b) (Some c) x k p = p ∙ ap (λ y. y ++ x) k

module _ (answers : Asked → List ℕ → Type 0) where
  pub served_more : (s t : Service) (piece : List ℕ) (left mid now : Option (List ℕ)) {X : Type 0} (old was new : Output X) → HasServed answers s left mid old was → Consumes mid now piece →
      Fed answers s t piece was new → HasServed answers t left now old new
  served_more s t piece left mid now old was new (fed, rs, gone, taken, replied) here f =
      let (more, further, after) = f fed rs taken in
      (fed ++ piece, rs ++ more, Consumes-trans left mid now fed piece gone here, further, replied_then answers rs more old was new Done replied after)

  pub served_all : (s : Service) (n : ℕ) (left mid now : Option (List ℕ)) {X : Type 0} (first old was new : Output X) → s.cutter.taker.questions.list.vertices ≡ n →
      HasServed answers s left mid old was → Consumes mid now [] → IsAtEnd now → Keeps first.written old.written → old.failures ≡ first.failures
      → Finished answers s was new → Served answers n left first new
  served_all s n left mid now first old was new same (fed, rs, gone, taken, replied) here end kept sound f =
      let (more, all, after) = f fed rs taken in
      let whole : Consumes left now fed = subst (λ (x : List ℕ). Consumes left now x) (append-nil fed) (Consumes-trans left mid now fed [] gone here) in
      let both = replied_then answers rs more old was new Done replied after in (
        fed,
        rs ++ more,
        Consumes-whole left now fed (λ x. fed ≡ x) whole end refl,
        subst (λ k. HasRequests k fed (rs ++ more)) same all,
        record {
          texts = both.texts;
          right = both.right;
          bytes = kept_first first.written old.written new.written _ kept both.bytes;
          sound = both.sound ∙ sound;
        },
      )

  -- a prefix of the input
  begins : (left now : Option (List ℕ)) (text : List ℕ) → Consumes left now text → BeginsWith left text
  begins None now text h = tt
  begins (Some all) None text h = absurd h
  begins (Some all) (Some rest) text h = (rest, h)

  begins_less : (left : Option (List ℕ)) (text more : List ℕ) → BeginsWith left (text ++ more) → BeginsWith left text
  begins_less None text more h = tt
  begins_less (Some all) text more (rest, h) = (more ++ rest, h ∙ append_assoc text more rest)

  begins_part : (left mid now : Option (List ℕ)) (fed piece prefix rest : List ℕ) → Consumes left mid fed → Consumes mid now piece → piece ≡ prefix ++ rest → BeginsWith left (fed ++ prefix)
  begins_part left mid now fed piece prefix rest g h e =
      begins_less left (fed ++ prefix) rest (subst (BeginsWith left) (ap (λ x. fed ++ x) e ∙ sym (append_assoc fed prefix rest))
      (begins left now (fed ++ piece) (Consumes-trans left mid now fed piece g h)))

  replied_kept : (rs : List Request) {X : Type 0} (first old new : Output X) → Keeps first.written old.written → old.failures ≡ first.failures → Replied answers rs old new → Replied answers rs first new
  replied_kept rs first old new kept sound r = record { texts = r.texts; right = r.right; bytes = kept_first first.written old.written new.written _ kept r.bytes; sound = r.sound ∙ sound }

  fell_kept : (rs : List Request) {X : Type 0} (first old new : Output X) → Keeps first.written old.written → old.failures ≡ first.failures → FellIn answers rs old new → FellIn answers rs first new
  fell_kept rs first old new kept sound r = record {
    first = r.first;
    later = r.later;
    requests_are = r.requests_are;
    texts = r.texts;
    right = r.right;
    wrote = record {
      prefix = r.wrote.prefix;
      rest = r.wrote.rest;
      text_is = r.wrote.text_is;
      bytes = kept_first first.written old.written new.written r.wrote.prefix kept r.wrote.bytes;
      failed = r.wrote.failed ∙ ap (λ k. k + 1) sound;
    };
  }

  module _ (s : Service) (n : ℕ) (left mid now : Option (List ℕ)) {X : Type 0} (first old was new : Output X) (same : s.cutter.taker.questions.list.vertices ≡ n)
      (served : HasServed answers s left mid old was) (kept : Keeps first.written old.written) (sound : old.failures ≡ first.failures) where
    whole : (fed : List ℕ) (rs : List Request) (t : Service) → t.cutter.taker.questions.list.vertices ≡ n → WasFed t fed rs → MakesWhole n fed rs
    whole fed rs t e h = (parser_state t.cutter.taker, subst (λ k. LinesMay k 1 (Gives None) (lines true fed) rs (parser_state t.cutter.taker)) e h.made)

    -- a read is about to be made
    pub so_far : ServedSoFar answers n left mid first was
    so_far = let (fed, rs, gone, taken, replied) = served in (fed, rs, gone, whole fed rs s same taken, replied_kept rs first old was kept sound replied)

    -- a read failed
    pub read_failed : Keeps mid now → ServedSoFar answers n left now first was
    read_failed stays = let (fed, rs, gone, all, replied) = so_far in (fed, rs, Consumes-kept left mid now fed gone stays, all, replied)

    -- a write failed in the replies to what a piece makes whole
    pub feed_fell : (t : Service) (piece : List ℕ) → t.cutter.taker.questions.list.vertices ≡ n → Consumes mid now piece → FedPart answers s t piece was new →
        ServedPart answers n left first new
    feed_fell t piece e here f =
        let (fed, rs, gone, taken, replied) = served in
        let (prefix, rest, more, is, further, fell) = f fed rs taken in (
          fed ++ prefix,
          rs ++ more,
          begins_part left mid now fed piece prefix rest gone here is,
          inl (whole (fed ++ prefix) (rs ++ more) t e further),
          fell_kept (rs ++ more) first old new kept sound (replied_then answers rs more old was new Failed replied fell),
        )

    -- a request is too long
    pub feed_long : (t : Service) (piece : List ℕ) → t.cutter.taker.questions.list.vertices ≡ n → Consumes mid now piece → FedLong answers s t piece was new →
        ServedUntilTooLong answers n left now first new
    feed_long t piece e here f =
        let (fed, rs, gone, taken, replied) = served in
        let (prefix, rest, more, is, some, further, full, after) = f fed rs taken in
        record {
          text = fed ++ prefix;
          beyond = rest;
          gone = subst (λ (x : List ℕ). Consumes left now x) (ap (λ x. fed ++ x) is ∙ sym (append_assoc fed prefix rest)) (Consumes-trans left mid now fed piece gone here);
          more = some;
          rs = rs ++ more;
          next = parser_state t.cutter.taker;
          made = subst (λ k. LinesMay k 1 (Gives None) (lines true (fed ++ prefix)) (rs ++ more) (parser_state t.cutter.taker)) e further.made;
          replied = replied_kept (rs ++ more) first old new kept sound (replied_then answers rs more old was new Done replied after);
          own = further.own;
          is_open = subst (λ k. IsUnfinished k (fed ++ prefix) (rs ++ more) (parser_state t.cutter.taker) further.own) e further.is_open;
          full = sym further.count ∙ full;
        }

    -- a write failed in the replies to what was left
    pub end_fell : FinishedPart answers s was new → ServedPart answers n left first new
    end_fell f =
        let (fed, rs, gone, taken, replied) = served in
        let (more, all, fell) = f fed rs taken in (
          fed,
          rs ++ more,
          begins left mid fed gone,
          inr (subst (λ k. HasRequests k fed (rs ++ more)) same all),
          fell_kept (rs ++ more) first old new kept sound
              (replied_then answers rs more old was new Failed replied fell),
        )

  -- a flush failed before anything was read
  pub flush_fell : (n : ℕ) (left : Option (List ℕ)) {X : Type 0} (first new : Output X) → Keeps first.written new.written → new.failures ≡ first.failures + 1 → ServedPart answers n left first new
  flush_fell n left first new kept failed = (
    [],
    [],
    begins left left [] (Consumes-nil left),
    inl (Gives None, rw (lines_cut [] (λ k d h. absurd (omega arith))) (refl, refl)),
    record {
      first = [];
      later = [];
      requests_are = refl;
      texts = [];
      right = tt;
      wrote = record { prefix = []; rest = []; text_is = refl; bytes = kept_first first.written new.written new.written [] kept (Appends-nil new.written); failed = failed };
    },
  )

-- A watcher that is told of one read after another.
module _ {S Q W : Type 0} (answers : Asked → List ℕ → Type 0) (n : ℕ) (may_become : S → Input Q → Output W → S → Type 0) (input : Input Q) (out : Output W) where
  -- nothing was read yet
  pub told_none : (watcher : S) → ToldReads answers n may_become watcher watcher input input out
  told_none watcher = record { moments = []; are_moments = tt; told = refl; each = omega arith }

  -- one more moment
  moments_then : (reads : ℕ) (ms : List (ReadMoment Q W)) (m : ReadMoment Q W) → AreReadMoments answers n input out reads ms → IsReadMoment answers n input out (reads + length ms) m
      → AreReadMoments answers n input out reads (ms ++ m ∷ [])
  moments_then reads [] m before one = (subst (λ k. IsReadMoment answers n input out k m) (omega arith) one, tt)
  moments_then reads (x ∷ ms) m before one = (before.0, moments_then (reads + 1) ms m before.1 (subst (λ k. IsReadMoment answers n input out k m) (omega arith) one))

  follows_then : (ms : List (ReadMoment Q W)) (m : ReadMoment Q W) (old mid new : S) → FollowsReads may_become old ms mid → may_become mid m.input m.out new
      → FollowsReads may_become old (ms ++ m ∷ []) new
  follows_then [] m old mid new same one = (new, subst (λ s. may_become s m.input m.out new) same one, refl)
  follows_then (x ∷ ms) m old mid new (next, first, rest) one = (next, first, follows_then ms m next mid new rest one)

  -- one more read, before which the watcher was told
  pub told_then : (old mid new : S) (now after : Input Q) (shown : Output W) → ToldReads answers n may_become old mid input now out → ServedSoFar answers n input.left now.left out shown
      → shown.held ≡ [] → may_become mid now shown new → after.asked ≡ now.asked + 1 → ToldReads answers n may_become old new input after out
  told_then old mid new now after shown before served held one counted =
      let m : ReadMoment Q W = record { input = now; out = shown } in
      record {
        moments = before.moments ++ m ∷ [];
        are_moments = moments_then 0 before.moments m before.are_moments (record { asked = omega (arith, before.each); served = served; passed_on = held });
        told = follows_then before.moments m old mid new before.told one;
        each = omega (arith, counted, before.each, length-append before.moments (m ∷ []));
      }

  -- so it is of a service that serves its input
  pub told_served : (s : Service) (old mid new : S) (now after : Input Q) (flushed was : Output W) → s.cutter.taker.questions.list.vertices ≡ n → HasServed answers s input.left now.left flushed was
      → Keeps out.written flushed.written → flushed.failures ≡ out.failures → was.held ≡ [] → ToldReads answers n may_become old mid input now out → may_become mid now was new
      → after.asked ≡ now.asked + 1 → ToldReads answers n may_become old new input after out
  told_served s old mid new now after flushed was same served kept sound held before one counted =
      told_then old mid new now after was before (so_far answers s n input.left now.left now.left out flushed was was same served kept sound) held one counted
