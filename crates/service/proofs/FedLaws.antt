-- Replies that are written one after the other.
use Rattle.service.proofs.Words.{◌≡◌, ℕ, ◌+◌, List, [], ◌∷◌, ◌++◌, Result, Ok, Err, refl, sym, ap, ◌∙◌, subst, append_assoc, append-nil, Appends, FailedAfterPrefix, WritesText, Asked, Output, Request}
use Rattle.text_lines.proofs.WriteLaws.{fell_first}
use Rattle.std.proofs.KnownBytes.{Appends-trans, Appends-nil}
use Rattle.service.specs.Fed.{IsReplyBy, AreRepliesBy, joined, Replied, FellIn, RepliedOrFell}

pub joined-append : (xs ys : List (List ℕ)) → joined (xs ++ ys) ≡ joined xs ++ joined ys
joined-append [] ys = refl
joined-append (x ∷ xs) ys = ap (λ t. x ++ t) (joined-append xs ys) ∙ sym (append_assoc x (joined xs) (joined ys))

module _ (answers : Asked → List ℕ → Type 0) where
  are-append : (rs qs : List Request) (ts us : List (List ℕ)) → AreRepliesBy answers rs ts → AreRepliesBy answers qs us → AreRepliesBy answers (rs ++ qs) (ts ++ us)
  are-append [] qs [] us p q = q
  are-append [] qs (t ∷ ts) us p q = absurd p
  are-append (r ∷ rs) qs [] us p q = absurd p
  are-append (r ∷ rs) qs (t ∷ ts) us p q = (p.0, are-append rs qs ts us p.1 q)

  -- no reply
  pub replied_none : {X : Type 0} (old : Output X) → Replied answers [] old old
  replied_none old = record { texts = []; right = tt; bytes = Appends-nil old.written; sound = refl }

  -- one reply
  pub replied_one : {A E : Type 0} (r : Request) (text : List ℕ) {X : Type 0} (old new : Output X) (res : Result A E) → IsReplyBy answers r text →
      WritesText old new text res → RepliedOrFell answers (r ∷ []) old new res
  replied_one r text old new (Ok v) is was = record {
    texts = text ∷ [];
    right = (is, tt);
    bytes = subst (Appends old.written new.written) (sym (append-nil text ∙ was.text_is ∙ append-nil was.prefix)) was.bytes;
    sound = was.sound;
  }
  replied_one r text old new (Err e) is was = record {
    first = r ∷ [];
    later = [];
    requests_are = refl;
    texts = text ∷ [];
    right = (is, tt);
    wrote = fell_first old new text [] was;
  }

  -- replies, and then others
  pub replied_then : {A E : Type 0} (rs qs : List Request) {X : Type 0} (old mid new : Output X) (res : Result A E) → Replied answers rs old mid →
      RepliedOrFell answers qs mid new res → RepliedOrFell answers (rs ++ qs) old new res
  replied_then rs qs old mid new (Ok v) p q = record {
    texts = p.texts ++ q.texts;
    right = are-append rs qs p.texts q.texts p.right q.right;
    bytes = subst (Appends old.written new.written) (sym (joined-append p.texts q.texts)) (Appends-trans old.written mid.written new.written (joined p.texts) (joined q.texts) p.bytes q.bytes);
    sound = q.sound ∙ p.sound;
  }
  replied_then rs qs old mid new (Err e) p q = record {
    first = rs ++ q.first;
    later = q.later;
    requests_are = ap (λ x. rs ++ x) q.requests_are ∙ sym (append_assoc rs q.first q.later);
    texts = p.texts ++ q.texts;
    right = are-append rs q.first p.texts q.texts p.right q.right;
    wrote = subst (FailedAfterPrefix old new) (sym (joined-append p.texts q.texts)) (behind (joined p.texts) (joined q.texts) p.bytes p.sound q.wrote);
  }
    where
      behind : (x y : List ℕ) → Appends old.written mid.written x → mid.failures ≡ old.failures → FailedAfterPrefix mid new y → FailedAfterPrefix old new (x ++ y)
      behind x y e s f = record {
        prefix = x ++ f.prefix;
        rest = f.rest;
        text_is = ap (λ z. x ++ z) f.text_is ∙ sym (append_assoc x f.prefix f.rest);
        bytes = Appends-trans old.written mid.written new.written x f.prefix e f.bytes;
        failed = f.failed ∙ ap (λ k. k + 1) s;
      }

  -- a failed write, before others are replied to
  pub fell_before : (rs qs : List Request) {X : Type 0} (old new : Output X) → FellIn answers rs old new → FellIn answers (rs ++ qs) old new
  fell_before rs qs old new p = record {
    first = p.first;
    later = p.later ++ qs;
    requests_are = ap (λ x. x ++ qs) p.requests_are ∙ append_assoc p.first p.later qs;
    texts = p.texts;
    right = p.right;
    wrote = p.wrote;
  }
