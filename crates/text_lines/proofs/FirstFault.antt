-- A fault of a text is the first one: that of the least line that breaks a rule, else that of the
-- end.
use Rattle.text_lines.proofs.Words.{◌≡◌, ℕ, ◌+◌, ◌≤◌, List, [], ◌∷◌, ◌++◌, length, take, Bool, true, false, cond, nat_lt, Ok, Err, Result, inl, inr, refl, sym, ap, ◌∙◌, subst, arith, MatchBool, ReadFault, lines, fields}
use Rattle.text_lines.specs.Rules.{Rules, value_of_lines, text_read, FaultIn, FirstFault, EndsIn, state_after, at_line, fault_at, too_long, ◌>>=◌}

fault_parts : {V : Type 0} (n at : ℕ) (f : ReadFault) → ◌≡◌ {A = Result V ReadFault} (Err (fault_at at n)) (Err f) → (n ≡ f.number) × (at ≡ f.line)
fault_parts n at f h = (cc, cc)

whole_fault : {V : Type 0} (at : ℕ) (f : ReadFault) → f.line ≡ at → ◌≡◌ {A = Result V ReadFault} (Err (fault_at at f.number)) (Err f)
whole_fault {V = V} at f p = subst (λ k. ◌≡◌ {A = Result V ReadFault} (Err (fault_at k f.number)) (Err f)) p refl

none_before : (at : ℕ) → at + length {A = List ℕ} [] ≡ at
none_before at = omega arith

further : (at : ℕ) (l : List ℕ) (ls : List (List ℕ)) → (at + 1) + length ls ≡ at + length (l ∷ ls)
further at l ls = omega arith

module _ {S V : Type 0} (rules : Rules S V) where
  ends : (cut : Bool) (at : ℕ) (s : S) (f : ReadFault) (r : Result V ℕ) → rules.end s ≡ r → cond cut (Err too_long) (at_line at r) ≡ Err f → EndsIn cut rules at s f
  ends true at s f r e h = cc
  ends false at s f (Ok v) e h = cc
  ends false at s f (Err n) e h = let p = fault_parts {V = V} n at f h in (e ∙ ap (λ k. Err k) p.0, sym p.1)

  later : (cut : Bool) (at : ℕ) (s t : S) (l : List ℕ) (ls : List (List ℕ)) (f : ReadFault) → rules.line s (fields l) ≡ Ok t → FaultIn cut rules (at + 1) t ls f → FaultIn cut rules at s (l ∷ ls) f
  later cut at s t l ls f e (inl p) = inl (record {
    before = l ∷ p.before;
    here = p.here;
    after = p.after;
    reached = p.reached;
    lines_are = ap (λ xs. l ∷ xs) p.lines_are;
    taken = rw e p.taken;
    broken = p.broken;
    place = omega (arith, p.place);
  })
  later cut at s t l ls f e (inr p) = inr (record {
    reached = p.reached;
    taken = rw e p.taken;
    broken = subst (λ k. EndsIn cut rules k p.reached f) (further at l ls) p.broken;
  })

  at_a_line : (cut : Bool) (at : ℕ) (s : S) (l : List ℕ) (ls : List (List ℕ)) (f : ReadFault) (r : Result S ℕ) → rules.line s (fields l) ≡ r
      → ((t : S) → value_of_lines cut rules (at + 1) t ls ≡ Err f → FaultIn cut rules (at + 1) t ls f)
      → (at_line at r >>= λ t. value_of_lines cut rules (at + 1) t ls) ≡ Err f → FaultIn cut rules at s (l ∷ ls) f
  at_a_line cut at s l ls f (Err n) e more h = let p = fault_parts {V = V} n at f h in inl (record {
    before = [];
    here = l;
    after = ls;
    reached = s;
    lines_are = refl;
    taken = refl;
    broken = e ∙ ap (λ k. Err k) p.0;
    place = omega (arith, p.1);
  })
  at_a_line cut at s l ls f (Ok t) e more h = later cut at s t l ls f e (more t h)

  pub fault_is_first : (cut : Bool) (at : ℕ) (s : S) (ls : List (List ℕ)) (f : ReadFault) → value_of_lines cut rules at s ls ≡ Err f → FaultIn cut rules at s ls f
  fault_is_first cut at s [] f h = inr (record { reached = s; taken = refl; broken = subst (λ k. EndsIn cut rules k s f) (sym (none_before at)) (ends cut at s f (rules.end s) refl h) })
  fault_is_first cut at s (l ∷ ls) f h = at_a_line cut at s l ls f (rules.line s (fields l)) refl (λ t. fault_is_first cut (at + 1) t ls f) h

  after_line : (cut : Bool) (at : ℕ) (reached : S) (ls more : List (List ℕ)) (f : ReadFault) → ((t : S) → state_after rules t ls ≡ Ok reached → value_of_lines cut rules (at + 1) t more ≡ Err f)
      → (r : Result S ℕ) → (r >>= λ t. state_after rules t ls) ≡ Ok reached → (at_line at r >>= λ t. value_of_lines cut rules (at + 1) t more) ≡ Err f
  after_line cut at reached ls more f next (Ok t) h = next t h
  after_line cut at reached ls more f next (Err n) h = cc

  -- and the first fault is the one that `value_of_lines` gives
  finds_line : (cut : Bool) (at : ℕ) (s reached : S) (before : List (List ℕ)) (here : List ℕ) (after : List (List ℕ)) (f : ReadFault)
      → state_after rules s before ≡ Ok reached → rules.line reached (fields here) ≡ Err f.number → f.line ≡ at + length before → value_of_lines cut rules at s (before ++ here ∷ after) ≡ Err f
  finds_line cut at s reached [] here after f taken broken place =
      let same : s ≡ reached = cc in
      rw (same, broken) (whole_fault {V = V} at f (omega (arith, place)))
  finds_line cut at s reached (l ∷ ls) here after f taken broken place =
      after_line cut at reached ls (ls ++ here ∷ after) f (λ t h. finds_line cut (at + 1) t reached ls here after f h broken (omega (arith, place))) (rules.line s (fields l)) taken

  finds_end : (cut : Bool) (at : ℕ) (s reached : S) (ls : List (List ℕ)) (f : ReadFault) → state_after rules s ls ≡ Ok reached → EndsIn cut rules (at + length ls) reached f →
      value_of_lines cut rules at s ls ≡ Err f
  finds_end true at s reached [] f taken broken = ap (λ (k : ReadFault). Err k) (sym broken)
  finds_end false at s reached [] f taken broken =
      let same : s ≡ reached = cc in
      rw (same, broken.0) (whole_fault {V = V} at f (omega (arith, broken.1)))
  finds_end cut at s reached (l ∷ ls) f taken broken =
      after_line cut at reached ls ls f (λ t h. finds_end cut (at + 1) t reached ls f h (subst (λ k. EndsIn cut rules k reached f) (sym (further at l ls)) broken)) (rules.line s (fields l)) taken

  finds : (cut : Bool) (at : ℕ) (s : S) (ls : List (List ℕ)) (f : ReadFault) → FaultIn cut rules at s ls f → value_of_lines cut rules at s ls ≡ Err f
  finds cut at s ls f (inl p) = subst (λ x. value_of_lines cut rules at s x ≡ Err f) (sym p.lines_are) (finds_line cut at s p.reached p.before p.here p.after f p.taken p.broken p.place)
  finds cut at s ls f (inr p) = finds_end cut at s p.reached ls f p.taken p.broken

  pub first_fault : (text : List ℕ) (f : ReadFault) → text_read rules text ≡ Err f → FirstFault rules text f
  first_fault text f h = by_length (nat_lt 4294967296 (length text)) h
    where
      by_length : (b : Bool) → cond b (value_of_lines true rules 1 rules.start (lines true (take 4294967296 text))) (value_of_lines false rules 1 rules.start (lines false text)) ≡ Err f
          → MatchBool b (FaultIn true rules 1 rules.start (lines true (take 4294967296 text)) f) (FaultIn false rules 1 rules.start (lines false text) f)
      by_length true e = fault_is_first true 1 rules.start (lines true (take 4294967296 text)) f e
      by_length false e = fault_is_first false 1 rules.start (lines false text) f e

  pub found_fault : (text : List ℕ) (f : ReadFault) → FirstFault rules text f → text_read rules text ≡ Err f
  found_fault text f h = by_length (nat_lt 4294967296 (length text)) h
    where
      by_length : (b : Bool) → MatchBool b (FaultIn true rules 1 rules.start (lines true (take 4294967296 text)) f) (FaultIn false rules 1 rules.start (lines false text) f)
          → cond b (value_of_lines true rules 1 rules.start (lines true (take 4294967296 text))) (value_of_lines false rules 1 rules.start (lines false text)) ≡ Err f
      by_length true e = finds true 1 rules.start (lines true (take 4294967296 text)) f e
      by_length false e = finds false 1 rules.start (lines false text) f e

  none_at : (at : ℕ) (s : S) (l : List ℕ) (ls : List (List ℕ)) → 1 ≤ at → (r : Result S ℕ)
      → ((t : S) → value_of_lines true rules (at + 1) t ls ≡ Err too_long → (reached : S) × (state_after rules t ls ≡ Ok reached))
      → (at_line at r >>= λ t. value_of_lines true rules (at + 1) t ls) ≡ Err too_long → (reached : S) × ((r >>= λ t. state_after rules t ls) ≡ Ok reached)
  none_at at s l ls le (Ok t) more h = more t h
  none_at at s l ls le (Err n) more h = let p = fault_parts {V = V} n at too_long h in absurd (omega (arith, le, p.1))

  -- where a text that is cut short is too long and no more, no line breaks a rule
  pub breaks_none : (at : ℕ) (s : S) (ls : List (List ℕ)) → 1 ≤ at → value_of_lines true rules at s ls ≡ Err too_long → (reached : S) × (state_after rules s ls ≡ Ok reached)
  breaks_none at s [] le h = (s, refl)
  breaks_none at s (l ∷ ls) le h = none_at at s l ls le (rules.line s (fields l)) (λ t p. breaks_none (at + 1) t ls (omega (arith, le)) p) h
