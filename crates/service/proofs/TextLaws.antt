-- Each request is read of some lines in a row.
use Rattle.service.proofs.Words.{◌≡◌, ℕ, ◌+◌, Bool, true, false, not, nat_lt, List, [], ◌∷◌, ◌++◌, length, map, refl, ap, ◌∙◌, sym, append_assoc, length-append, None, Some, Option, Result, Ok, Err, arith, AllByRecursion, lines, fields, Rules, at_line, fault_at, Asked, AskedSoFar, question_rules, question_end, Request, requests, requests_of, ServiceState, Gives, Passes, Step, service_line, begins_request, given, whole_or_on}
use Rattle.text_lines.specs.Rules.{value_of_lines, state_after, unless, ◌>>=◌}
use Rattle.std.specs.Bool.{⊤}
use Rattle.service.specs.RequestTexts.{IsTextIn}

-- reading goes on after lines that break no rule
reading_on : {S V : Type 0} (rules : Rules S V) (at : ℕ) (s t : S) (ls more : List (List ℕ)) → state_after rules s ls ≡ Ok t →
    value_of_lines false rules at s (ls ++ more) ≡ value_of_lines false rules (at + length ls) t more
reading_on rules at s t [] more h =
    let same : s ≡ t = cc in rw same (ap (λ k. value_of_lines false rules k t more) (omega arith))
reading_on {S = S} rules at s t (l ∷ ls) more h = by_line (rules.line s (fields l)) (λ u g. reading_on rules (at + 1) u t ls more g ∙ ap (λ k. value_of_lines false rules k t more) (omega arith)) h
  where
    by_line : (r : Result S ℕ) → ((u : S) → state_after rules u ls ≡ Ok t → value_of_lines false rules (at + 1) u (ls ++ more) ≡ value_of_lines false rules (at + length (l ∷ ls)) t more)
        → (r >>= λ u. state_after rules u ls) ≡ Ok t → (at_line at r >>= λ u. value_of_lines false rules (at + 1) u (ls ++ more)) ≡ value_of_lines false rules (at + length (l ∷ ls)) t more
    by_line (Ok u) next g = next u g
    by_line (Err e) next g = cc

-- the state goes on in the same way
state_on : {S V : Type 0} (rules : Rules S V) (s t u : S) (ls : List (List ℕ)) (l : List ℕ) → state_after rules s ls ≡ Ok t → rules.line t (fields l) ≡ Ok u → state_after rules s (ls ++ l ∷ []) ≡ Ok u
state_on rules s t u [] l h g = let same : s ≡ t = cc in rw (same, g) refl
state_on {S = S} rules s t u (m ∷ ls) l h g = by_line (rules.line s (fields m)) (λ v f. state_on rules v t u ls l f g) h
  where
    by_line : (r : Result S ℕ) → ((v : S) → state_after rules v ls ≡ Ok t → state_after rules v (ls ++ l ∷ []) ≡ Ok u) → (r >>= λ v. state_after rules v ls) ≡ Ok t →
        (r >>= λ v. state_after rules v (ls ++ l ∷ [])) ≡ Ok u
    by_line (Ok v) next f = next v f
    by_line (Err e) next f = cc

-- a request that goes on has too few lines
abbrev GoesOn : Option AskedSoFar → Type 0
GoesOn None = ⊤
GoesOn (Some q) = question_end (Some q) ≡ Err 19

goes_on : (s : Option AskedSoFar) (e : ℕ) → question_end s ≡ Err e → GoesOn s
goes_on None e h = tt
goes_on (Some q) e h = by_count (record { kind = q.kind; questions = q.questions }) (not (nat_lt (length q.questions) q.announced)) h
  where
    by_count : (asked : Asked) (b : Bool) → (unless b 19 >>= λ _. Ok asked) ≡ Err e → (unless b 19 >>= λ _. Ok asked) ≡ Err 19
    by_count asked true g = cc
    by_count asked false g = refl

module _ (n start : ℕ) (all : List (List ℕ)) where
  abbrev Holds : List Request → Type 0
  Holds rs = AllByRecursion (IsTextIn n start all) rs

  -- some lines were given to a request, and these follow
  record Given (at : ℕ) (s : Option AskedSoFar) (ls : List (List ℕ)) : Type 0 where
    before : List (List ℕ)
    own : List (List ℕ)
    lines_are : all ≡ before ++ (own ++ ls)
    place : at ≡ (start + length before) + length own
    taken : state_after (question_rules n None) None own ≡ Ok s
    goes : GoesOn s

  -- lines were passed over, and these follow
  record Passed (at : ℕ) (ls : List (List ℕ)) : Type 0 where
    before : List (List ℕ)
    lines_are : all ≡ before ++ ls
    place : at ≡ start + length before

  abbrev HasState : ℕ → ServiceState → List (List ℕ) → Type 0
  HasState at (Gives s) ls = Given at s ls
  HasState at Passes ls = Passed at ls

  -- after a line
  further : (before own ls : List (List ℕ)) (l : List ℕ) → before ++ (own ++ l ∷ ls) ≡ (before ++ (own ++ l ∷ [])) ++ ls
  further before own ls l = ap (λ x. before ++ x) (sym (append_assoc own (l ∷ []) ls)) ∙ sym (append_assoc before (own ++ l ∷ []) ls)

  further_place : (before own : List (List ℕ)) (l : List ℕ) → ((start + length before) + length own) + 1 ≡ start + length (before ++ (own ++ l ∷ []))
  further_place before own l = omega (arith, length-append before (own ++ l ∷ []), length-append own (l ∷ []))

  passed_on : (at : ℕ) (s : Option AskedSoFar) (l : List ℕ) (ls : List (List ℕ)) → Given at s (l ∷ ls) → Passed (at + 1) ls
  passed_on at s l ls h = record { before = h.before ++ (h.own ++ l ∷ []); lines_are = h.lines_are ∙ further h.before h.own ls l; place = ap (λ k. k + 1) h.place ∙ further_place h.before h.own l }

  -- the next request begins after these lines
  begins_at : (at : ℕ) (ls : List (List ℕ)) → Passed at ls → Given at None ls
  begins_at at ls h = record { before = h.before; own = []; lines_are = h.lines_are; place = omega (arith, h.place); taken = refl; goes = tt }

  -- what the lines so far read with this one, and at an end before it
  read_with : (at : ℕ) (s : Option AskedSoFar) (more ls : List (List ℕ)) (h : Given at s (more ++ ls)) (r : Request) → value_of_lines false (question_rules n None) at s more ≡ r →
      IsTextIn n start all r
  read_with at s more ls h r g = record {
    before = h.before;
    own = h.own ++ more;
    after = ls;
    lines_are = h.lines_are ∙ ap (λ x. h.before ++ x) (sym (append_assoc h.own more ls));
    read = reading_on (question_rules n None) (start + length h.before) None s h.own more h.taken ∙ ap (λ k. value_of_lines false (question_rules n None) k s more) (sym h.place) ∙ g;
  }

  abbrev Next : Bool → ℕ → List (List ℕ) → Type 0
  Next cut at ls = (state : ServiceState) → HasState at state ls → Holds (requests_of cut n at state ls)

  abbrev StepHolds : Bool → ℕ → List (List ℕ) → Step → Type 0
  StepHolds cut at ls step = Holds (map (at_line at) step.ended ++ requests_of cut n (at + 1) step.next ls)

  whole : (cut : Bool) (at : ℕ) (s t : Option AskedSoFar) (l : List ℕ) (ls : List (List ℕ)) → Given at s (l ∷ ls) → Next cut (at + 1) ls → (question_rules n None).line s (fields l) ≡ Ok t
      → (r : Result Asked ℕ) → question_end t ≡ r → StepHolds cut at ls (whole_or_on t r)
  whole cut at s t l ls h next e (Ok asked) g =
      (read_with at s (l ∷ []) ls h (Ok asked) (rw (e, g) refl), next (Gives None) (begins_at (at + 1) ls (passed_on at s l ls h)))
  whole cut at s t l ls h next e (Err number) g = next (Gives t) (record {
    before = h.before;
    own = h.own ++ l ∷ [];
    lines_are = h.lines_are ∙ ap (λ x. h.before ++ x) (sym (append_assoc h.own (l ∷ []) ls));
    place = omega (arith, h.place, length-append h.own (l ∷ []));
    taken = state_on (question_rules n None) None s t h.own l h.taken e;
    goes = goes_on t number g;
  })

  give_holds : (cut : Bool) (at : ℕ) (s : Option AskedSoFar) (l : List ℕ) (ls : List (List ℕ)) → Given at s (l ∷ ls) → Next cut (at + 1) ls
      → (r : Result (Option AskedSoFar) ℕ) → (question_rules n None).line s (fields l) ≡ r → StepHolds cut at ls (given r)
  give_holds cut at s l ls h next (Ok t) e = whole cut at s t l ls h next e (question_end t) refl
  give_holds cut at s l ls h next (Err number) e = (read_with at s (l ∷ []) ls h (Err (fault_at at number)) (rw e refl), next Passes (passed_on at s l ls h))

  -- the request that goes on ends before these lines
  early : (at : ℕ) (q : AskedSoFar) (ls : List (List ℕ)) → Given at (Some q) ls → IsTextIn n start all (Err (fault_at at 19))
  early at q ls h = read_with at (Some q) [] ls h (Err (fault_at at 19)) (ap (at_line at) h.goes)

  ends_here : (at : ℕ) (s : Option AskedSoFar) (ls : List (List ℕ)) → Given at s ls → Passed at ls
  ends_here at s ls h = record { before = h.before ++ h.own; lines_are = h.lines_are ∙ sym (append_assoc h.before h.own ls); place = omega (arith, h.place, length-append h.before h.own) }

  line_holds : (cut : Bool) (at : ℕ) (state : ServiceState) (l : List ℕ) (ls : List (List ℕ)) → HasState at state (l ∷ ls) → Next cut (at + 1) ls → (b : Bool) →
      begins_request (fields l) ≡ b → StepHolds cut at ls (service_line n state (fields l))
  line_holds cut at (Gives None) l ls h next b e = give_holds cut at None l ls h next ((question_rules n None).line None (fields l)) refl
  line_holds cut at (Gives (Some q)) l ls h next true e = rw e (
    early at q (l ∷ ls) h,
    give_holds cut at None l ls
        (begins_at at (l ∷ ls) (ends_here at (Some q) (l ∷ ls) h)) next ((question_rules n None).line None (fields l)) refl,
  )
  line_holds cut at (Gives (Some q)) l ls h next false e = rw e (give_holds cut at (Some q) l ls h next ((question_rules n None).line (Some q) (fields l)) refl)
  line_holds cut at Passes l ls h next true e = rw e (give_holds cut at None l ls (begins_at at (l ∷ ls) h) next ((question_rules n None).line None (fields l)) refl)
  line_holds cut at Passes l ls h next false e = rw e (next Passes (record {
    before = h.before ++ l ∷ [];
    lines_are = h.lines_are ∙ sym (append_assoc h.before (l ∷ []) ls);
    place = omega (arith, h.place, length-append h.before (l ∷ []));
  }))

  end_holds : (cut : Bool) (at : ℕ) (state : ServiceState) → HasState at state [] → Holds (requests_of cut n at state [])
  end_holds true at state h = tt
  end_holds false at (Gives None) h = tt
  end_holds false at (Gives (Some q)) h = (early at q [] h, tt)
  end_holds false at Passes h = tt

  all_hold : (cut : Bool) (at : ℕ) (ls : List (List ℕ)) → Next cut at ls
  all_hold cut at [] state h = end_holds cut at state h
  all_hold cut at (l ∷ ls) state h = line_holds cut at state l ls h (all_hold cut (at + 1) ls) (begins_request (fields l)) refl

pub requests_are_texts : (cut : Bool) (n : ℕ) (bytes : List ℕ) → AllByRecursion (IsTextIn n 1 (lines cut bytes)) (requests cut n bytes)
requests_are_texts cut n bytes = all_hold n 1 (lines cut bytes) cut 1 (lines cut bytes) (Gives None) (record { before = []; own = []; lines_are = refl; place = omega arith; taken = refl; goes = tt })
