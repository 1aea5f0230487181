-- What a parser's lines give by rules, line by line and as a whole text.
use Rattle.std.proofs.Common.{◌≡◌, ℕ, ◌+◌, List, [], ◌∷◌, Bool, false, Ok, Err, Result, refl, subst, ◌≢◌, ◌≤◌, ◌⊎◌, inl, inr, length, take, true, cond, nat_lt, Option, Some, None, IfErr, ap, arith, IfSome}
use Rattle.std.specs.Result.{OnOk, IfOk}
use Rattle.text_lines.specs.declared.faults.LineFault.{LineFault}
use Rattle.text_lines.specs.declared.faults.LineFault.TheVariants.{Broken}
use Rattle.text_lines.proofs.Words.{ReadFault, fields, lines, number_up_to, MatchBool, IfOk-weaker, IfErr-weaker, Meaning}
use Rattle.text_lines.specs.declared.faults.Rule.{Rule}
use Rattle.text_lines.specs.Rules.{Rules, fault_at, ◌>>=◌, unless, at_line, value_of_lines, text_read, too_long}
use Rattle.text_lines.specs.Takes.{Breaks, GivesBy, Leaves}
use Rattle.text_lines.specs.Streams.{Input}
use Rattle.text_lines.specs.Reads.{IsNumberFrom, IsReadNumber, ReadsSomeFault, ReadsText, ReadsValue, ReadsSome, ReadsFault, FailsAfter, RunsOutAfter, BreaksNone, FailsUnbroken, RunsOutUnbroken}
use Rattle.std.proofs.lemmas.Option.{IfSome_then}
use Rattle.text_lines.proofs.FirstFault.{breaks_none}
use Rattle.text_lines.specs.Reading.{TextGives, SomeTextGives, IsUnbroken, ReadsWhole}

-- what code leaves where it gives a value
pub on_ok : {A B P : Type 0} (r : Result B LineFault) (rule : Result A ℕ) (state : A) → Leaves rule r state → (rule ≡ Ok state → P) → OnOk r P
on_ok (Ok x) rule state h f = f h
on_ok (Err e) rule state h f = tt

-- the rule that code reports as broken is the rule that is
pub broken_is : {A : Type 0} (rule_gives : Result A ℕ) (fault : LineFault) (rule : Rule) → ◌≡◌ {A = Result (Unit {0}) LineFault} (Err fault) (Err (Broken rule)) →
    Breaks rule_gives fault → rule_gives ≡ Err rule.number
broken_is rule_gives fault rule e h = let same : fault ≡ Broken rule = cc in subst (Breaks rule_gives) same h

module _ {S V R : Type 0} (rules : Rules S V) (view : R → V) where
  -- a line that the rules take
  pub gives_taken : (s t : S) (cut : Bool) (at : ℕ) (l : List ℕ) (rest : List (List ℕ)) (r : Result R ReadFault) → rules.line s (fields l) ≡ Ok t →
      GivesBy rules t view cut (at + 1) rest r → GivesBy rules s view cut at (l ∷ rest) r
  gives_taken s t cut at l rest (Ok v) e h = rw e h
  gives_taken s t cut at l rest (Err f) e h = rw e h

  -- a line that breaks a rule
  pub gives_broken : (s : S) (cut : Bool) (at : ℕ) (l : List ℕ) (rest : List (List ℕ)) (n : ℕ) → rules.line s (fields l) ≡ Err n → GivesBy rules s view cut at (l ∷ rest) (Err (fault_at at n))
  gives_broken s cut at l rest n e = rw e refl

  -- the end
  pub gives_value : (s : S) (at : ℕ) (v : R) → rules.end s ≡ Ok (view v) → GivesBy rules s view false at [] (Ok v)
  gives_value s at v e = rw e refl

-- no fault, or one of these numbers
pub record IsOwn (least greatest : ℕ) {A : Type 0} (r : Result A ℕ) : Type 0 where
  pub own : IfErr r (λ k. (least ≤ k) × (k ≤ greatest))

module _ (least greatest : ℕ) where
  pub own_then : {A B : Type 0} (r : Result A ℕ) (f : A → Result B ℕ) → IsOwn least greatest r → ((x : A) → IsOwn least greatest (f x)) → IsOwn least greatest (r >>= f)
  own_then (Ok x) f h more = more x
  own_then (Err e) f h more = record { own = h.own }

  pub own_unless : {B : Type 0} (b : Bool) (k : ℕ) (f : Unit {0} → Result B ℕ) → least ≤ k → k ≤ greatest → IsOwn least greatest (f tt) → IsOwn least greatest (unless b k >>= f)
  own_unless true k f l g more = more
  own_unless false k f l g more = record { own = (l, g) }

  pub own_if : {A : Type 0} (b : Bool) (x y : Result A ℕ) → IsOwn least greatest x → IsOwn least greatest y → IsOwn least greatest (cond b x y)
  own_if true x y p q = p
  own_if false x y p q = q

  pub own_up_to : (none large limit : ℕ) (o : Option ℕ) → (least ≤ none) × (none ≤ greatest) → (least ≤ large) × (large ≤ greatest) → IsOwn least greatest (number_up_to none large limit o)
  own_up_to none large limit None first second = record { own = first }
  own_up_to none large limit (Some n) first second = own_if (nat_lt limit n) (Err large) (Ok n) (record { own = second }) (record { own = tt })

  -- too long, or one of these numbers
  abbrev IsOwnOrLong : {A : Type 0} → Result A ReadFault → Type 0
  IsOwnOrLong r = IfErr r (λ f. (f ≡ too_long) ⊎ ((least ≤ f.number) × (f.number ≤ greatest)))

  -- rules of which each line and the end tell these numbers alone
  module _ {S V : Type 0} (rules : Rules S V) (line : (s : S) (fs : List (List ℕ)) → IsOwn least greatest (rules.line s fs)) (end : (s : S) → IsOwn least greatest (rules.end s)) where
    own_end : (at : ℕ) (r : Result V ℕ) → IsOwn least greatest r → IsOwnOrLong (at_line at r)
    own_end at (Ok v) h = tt
    own_end at (Err k) h = inr h.own

    own_line : (at : ℕ) (r : Result S ℕ) (f : S → Result V ReadFault) → IsOwn least greatest r → ((t : S) → IsOwnOrLong (f t)) → IsOwnOrLong (at_line at r >>= f)
    own_line at (Ok t) f h more = more t
    own_line at (Err k) f h more = inr h.own

    own_reading : (cut : Bool) (at : ℕ) (s : S) (ls : List (List ℕ)) → IsOwnOrLong (value_of_lines cut rules at s ls)
    own_reading true at s [] = inl refl
    own_reading false at s [] = own_end at (rules.end s) (end s)
    own_reading cut at s (l ∷ ls) = own_line at (rules.line s (fields l)) _ (line s (fields l)) (λ t. own_reading cut (at + 1) t ls)

    own_either : (b : Bool) (x y : Result V ReadFault) → IsOwnOrLong x → IsOwnOrLong y → IsOwnOrLong (cond b x y)
    own_either true x y p q = p
    own_either false x y p q = q

    own_text : (all : List ℕ) → IsOwnOrLong (text_read rules all)
    own_text all = own_either (nat_lt 4294967296 (length all)) _ _ (own_reading true 1 rules.start (lines true (take 4294967296 all))) (own_reading false 1 rules.start (lines false all))

    own_or_long : (f : ReadFault) → 4 ≤ f.number → (f ≡ too_long) ⊎ ((least ≤ f.number) × (f.number ≤ greatest)) → IsNumberFrom least greatest f.number
    own_or_long f high (inl e) = absurd (omega (arith, ap (λ (x : ReadFault). x.number) e))
    own_or_long f high (inr own) = inr own

    own_number : (f : ReadFault) → IsNumberFrom 10 255 f.number → (2 ≤ f.number → f.number ≢ 3 → (all : List ℕ) × (text_read rules all ≡ Err f)) → IsNumberFrom least greatest f.number
    own_number f (inl low) text = inl low
    own_number f (inr high) text =
        let (all, e) = text (omega (arith, high.0)) (λ three. omega (arith, high.0, three)) in
        own_or_long f (omega (arith, high.0)) (subst IsOwnOrLong e (own_text all))

    -- a text that is read by these rules stops with one of these numbers, or with 1, 2 or 3
    pub own_numbers : {A : Type 0} (r : Result A ReadFault) → IsReadNumber 10 255 r → ReadsSomeFault rules r → IsReadNumber least greatest r
    own_numbers (Ok x) h text = tt
    own_numbers (Err f) h text = own_number f h text

by_test : {A : Type 0} (b : Bool) {P Q : Type 0} (x y v : A) → (P → x ≡ v) → (Q → y ≡ v) → MatchBool b P Q → cond b x y ≡ v
by_test true x y v p q h = p h
by_test false x y v p q h = q h

-- a parser that gives values and faults by these rules, of the whole text
module _ {S V T R : Type 0} (rules : Rules S V) (view : R → V) (meaning : Meaning T R) (parser : T)
    (by_value : (cut : Bool) (ls : List (List ℕ)) (v : R) → meaning.gives cut parser 1 ls (Ok v) → value_of_lines cut rules 1 rules.start ls ≡ Ok (view v))
    (by_fault : (cut : Bool) (ls : List (List ℕ)) (f : ReadFault) → meaning.gives cut parser 1 ls (Err f) → value_of_lines cut rules 1 rules.start ls ≡ Err f) where
  value_of_text : (all : List ℕ) (v : R) → TextGives meaning parser all (Ok v) → text_read rules all ≡ Ok (view v)
  value_of_text all v h = by_test (nat_lt 4294967296 (length all)) _ _ (Ok (view v)) (by_value true (lines true (take 4294967296 all)) v) (by_value false (lines false all) v) h

  fault_of_text : (all : List ℕ) (f : ReadFault) → TextGives meaning parser all (Err f) → text_read rules all ≡ Err f
  fault_of_text all f h = by_test (nat_lt 4294967296 (length all)) _ _ (Err f) (by_fault true (lines true (take 4294967296 all)) f) (by_fault false (lines false all) f) h

  pub reads_value : (left : Option (List ℕ)) (r : Result R ReadFault) → IfOk r (λ v. IfSome left (λ all. TextGives meaning parser all (Ok v))) → ReadsValue rules view left r
  reads_value left r h = IfOk-weaker r _ _ (λ v p. IfSome_then left p (λ all q. value_of_text all v q)) h

  pub reads_some : (r : Result R ReadFault) → IfOk r (λ v. SomeTextGives meaning parser (Ok v)) → ReadsSome rules view r
  reads_some r h = IfOk-weaker r _ _ (λ v p. (p.0, value_of_text p.0 v p.1)) h

  pub reads_fault : (left : Option (List ℕ)) (r : Result R ReadFault) → IfErr r (λ f. 2 ≤ f.number → f.number ≢ 3 → IfSome left (λ all. TextGives meaning parser all (Err f))) → ReadsFault rules left r
  reads_fault left r h = IfErr-weaker r _ _ (λ f p a b. IfSome_then left (p a b) (λ all q. fault_of_text all f q)) h

  pub reads_some_fault : (r : Result R ReadFault) → IfErr r (λ f. 2 ≤ f.number → f.number ≢ 3 → SomeTextGives meaning parser (Err f)) → ReadsSomeFault rules r
  reads_some_fault r h = IfErr-weaker r _ _ (λ f p a b. let text = p a b in (text.0, fault_of_text text.0 f text.1)) h

  unbroken_by : (bytes : List ℕ) → IsUnbroken meaning parser bytes → BreaksNone rules bytes
  unbroken_by bytes h = breaks_none rules 1 rules.start (lines true bytes) (omega arith) (by_fault true (lines true bytes) too_long h)

  pub fails_unbroken : (left rest : Option (List ℕ)) (r : Result R ReadFault) → IfErr r (λ f. f.number ≡ 1 → FailsAfter (IsUnbroken meaning parser) left rest) → FailsUnbroken rules left rest r
  fails_unbroken left rest r h = IfErr-weaker r _ _ (λ f p e. let (taken, c, u) = p e in (taken, c, unbroken_by taken u)) h

  pub runs_out_unbroken : (left rest : Option (List ℕ)) (r : Result R ReadFault) → IfErr r (λ f. f.number ≡ 3 → RunsOutAfter (IsUnbroken meaning parser) left rest) → RunsOutUnbroken rules left rest r
  runs_out_unbroken left rest r h = IfErr-weaker r _ _ (λ f p e. let q = p e in record
      { before = q.before; last = q.last; taken = q.taken; unbroken = unbroken_by q.before q.unbroken; one_read = q.one_read; fits = q.fits }) h

  -- What `read_whole` promises, said by the rules, which tell faults of these numbers alone.
  pub reads_text : {X : Type 0} (old new : Input X) (least greatest : ℕ)
      → ((s : S) (fs : List (List ℕ)) → IsOwn least greatest (rules.line s fs)) → ((s : S) → IsOwn least greatest (rules.end s)) → (r : Result R ReadFault)
      → ReadsWhole old new meaning parser r → ReadsText old new rules view least greatest r
  reads_text old new least greatest line end r h =
      let some : ReadsSomeFault rules r = reads_some_fault r h.some_fault in
      record {
        value = reads_value old.left r h.value;
        some_text = reads_some r h.some_text;
        fault = reads_fault old.left r h.fault;
        some_fault = some;
        sound = h.sound;
        told = h.told;
        untold = h.untold;
        long = h.long;
        placed = h.placed;
        numbered = own_numbers least greatest rules line end r h.numbered some;
        end = h.end;
        asked = h.asked;
        once = h.once;
        before_failure = fails_unbroken old.left new.left r h.before_failure;
        before_memory = runs_out_unbroken old.left new.left r h.before_memory;
      }

-- what is read stays read where the value is a part of another, and a fault is one whatever the
-- value is
module _ {S V A B X : Type 0} (old new : Input X) (rules : Rules S V) (least greatest : ℕ) (view : A → V) (whole : B → A) where
  pub reads_part : (x : B) → ReadsText old new rules view least greatest (Ok (whole x)) → ReadsText old new rules (λ b. view (whole b)) least greatest (Ok x)
  reads_part x h = record {
    value = h.value;
    some_text = h.some_text;
    fault = tt;
    some_fault = tt;
    sound = h.sound;
    told = tt;
    untold = tt;
    long = tt;
    placed = tt;
    numbered =
        tt;
    end = h.end;
    asked = h.asked;
    once = tt;
    before_failure = tt;
    before_memory = tt;
  }

  pub reads_no_part : (e : ReadFault) → ReadsText old new rules view least greatest (Err e) → ReadsText old new rules (λ b. view (whole b)) least greatest (Err e)
  reads_no_part e h = record {
    value = tt;
    some_text = tt;
    fault = h.fault;
    some_fault = h.some_fault;
    sound = tt;
    told = h.told;
    untold = h.untold;
    long = h.long;
    placed =
        h.placed;
    numbered = h.numbered;
    end = tt;
    asked = h.asked;
    once = h.once;
    before_failure = h.before_failure;
    before_memory = h.before_memory;
  }

-- what any value of the parser is
module _ {T R : Type 0} (meaning : Meaning T R) (parser : T) (P : R → Type 0) (sure : (cut : Bool) (ls : List (List ℕ)) (v : R) → meaning.gives cut parser 1 ls (Ok v) → P v) where
  either : (b : Bool) {X Y : Type 0} (v : R) → (X → P v) → (Y → P v) → MatchBool b X Y → P v
  either true v p q h = p h
  either false v p q h = q h

  pub reads_sure : (r : Result R ReadFault) → IfOk r (λ v. SomeTextGives meaning parser (Ok v)) → IfOk r P
  reads_sure r h = IfOk-weaker r _ _ (λ v p. either (nat_lt 4294967296 (length p.0)) v (sure true (lines true (take 4294967296 p.0)) v) (sure false (lines false p.0) v) p.1) h
