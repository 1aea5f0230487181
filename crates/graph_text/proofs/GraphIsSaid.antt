-- The lines of a text that is read as a graph say the graph.
use Rattle.std.proofs.Common.{◌≡◌, ◌≢◌, ℕ, suc, ◌+◌, ◌<◌, ◌≤◌, ◌==◌, Bool, true, false, not, if◌then◌else◌, nat_lt, List, [], ◌∷◌, ◌++◌, length, take, map, Option, Some, None, Result, Ok, Err, refl, sym, ap, ◌∙◌, subst, arith, codes, eqb-true, append_assoc, append-nil, length-append}
use Rattle.std.specs.Prelude.{bytes_eq, slice_index, is_none}
use Rattle.std.proofs.lemmas.Bool.{ltb-true, ltb-false, ne_eqb}
use Rattle.std.proofs.lemmas.Slice.Eq.{bytes_eq-Decides}
use Rattle.graph_text.proofs.Words.{RoadArc, GraphData, Word, word_of, word_at, up_to, vertex_in}
use Rattle.text_lines.specs.Lines.{lines, fields, number}
use Rattle.text_lines.specs.Rules.{◌>>=◌, unless, at_line, value_of_lines, text_value, text_read}
use Rattle.graph_text.specs.GraphFiles.{RoadsSoFar, gr_problem, one_arc, gr_arc, gr_line, gr_whole, graph_read, gr_end, gr_rules}
use Rattle.graph_text.specs.GraphLines.{first_field, arc_lines, problem_lines, SaysArc, SayArcs, SayGraph}

-- what goes well has gone well in each of its parts

then_ok : {A B E : Type 0} (r : Result A E) (f : A → Result B E) (t : B) → (r >>= f) ≡ Ok t → (x : A) × (r ≡ Ok x) × (f x ≡ Ok t)
then_ok (Ok x) f t e = (x, refl, e)
then_ok (Err n) f t e = cc

unless_ok : {B : Type 0} (b : Bool) (k : ℕ) (f : Unit {0} → Result B ℕ) (t : B) → (unless b k >>= f) ≡ Ok t → (b ≡ true) × (f tt ≡ Ok t)
unless_ok true k f t e = (refl, e)
unless_ok false k f t e = cc

at_line_ok : {A : Type 0} (at : ℕ) (r : Result A ℕ) (x : A) → at_line at r ≡ Ok x → r ≡ Ok x
at_line_ok at (Ok y) x e = let same : y ≡ x = cc in ap (λ z. Ok z) same
at_line_ok at (Err n) x e = cc

kept_if : (b : Bool) (k n v : ℕ) → ◌≡◌ {A = Result ℕ ℕ} (if b then Err k else Ok n) (Ok v) → n ≡ v
kept_if true k n v e = cc
kept_if false k n v e = cc

up_to_is : (limit : ℕ) (o : Option ℕ) (v : ℕ) → up_to limit o ≡ Ok v → o ≡ Some v
up_to_is limit None v e = cc
up_to_is limit (Some n) v e = ap (λ (x : ℕ). Some x) (kept_if (nat_lt limit n) 16 n v e)

vertex_is : (n : ℕ) (o : Option ℕ) (v : ℕ) → vertex_in n o ≡ Ok v → o ≡ Some v
vertex_is n None v e = cc
vertex_is n (Some u) v e = ap (λ (x : ℕ). Some x) (kept_if _ 17 u v e)

same_bytes : (x y : List ℕ) → bytes_eq x y ≡ true → x ≡ y
same_bytes x y e = (bytes_eq-Decides x y).0 e

-- four words are these fields
four : (fs : List (List ℕ)) → (length (map word_of fs) == 4) ≡ true → (a b c d : List ℕ) × (fs ≡ a ∷ b ∷ c ∷ d ∷ [])
four [] e = let n = eqb-true (length (map word_of [])) 4 e in absurd (omega (arith, n))
four (a ∷ []) e = let n = eqb-true (length (map word_of (a ∷ []))) 4 e in absurd (omega (arith, n))
four (a ∷ b ∷ []) e = let n = eqb-true (length (map word_of (a ∷ b ∷ []))) 4 e in absurd (omega (arith, n))
four (a ∷ b ∷ c ∷ []) e = let n = eqb-true (length (map word_of (a ∷ b ∷ c ∷ []))) 4 e in absurd (omega (arith, n))
four (a ∷ b ∷ c ∷ d ∷ []) e = (a, b, c, d, refl)
four (a ∷ b ∷ c ∷ d ∷ f ∷ fs) e = let n = eqb-true (length (map word_of (a ∷ b ∷ c ∷ d ∷ f ∷ fs))) 4 e in absurd (omega (arith, n))

-- the line of an arc that was taken
record TookArc (s : RoadsSoFar) (fs : List (List ℕ)) (t : RoadsSoFar) : Type 0 where
  arc : RoadArc
  room : length s.arcs < s.announced
  after : t ≡ record s { arcs = s.arcs ++ arc ∷ [] }
  first : List ℕ
  tail : List ℕ
  head : List ℕ
  weight : List ℕ
  fields_are : fs ≡ first ∷ tail ∷ head ∷ weight ∷ []
  tail_is : number tail ≡ Some arc.tail
  head_is : number head ≡ Some arc.head
  weight_is : number weight ≡ Some arc.weight

took_arc : (s : RoadsSoFar) (fs : List (List ℕ)) (t : RoadsSoFar) → one_arc s (map word_of fs) ≡ Ok t → TookArc s fs t
unfolding one_arc
took_arc s fs t e =
    let room = unless_ok (nat_lt (length s.arcs) s.announced) 18 _ t e in
    let many = unless_ok (length (map word_of fs) == 4) 14 _ t room.1 in
    let ws = four fs many.0 in
    let tail = then_ok (vertex_in s.vertices (word_at 1 (map word_of fs)).number) _ t many.1 in
    let head = then_ok (vertex_in s.vertices (word_at 2 (map word_of fs)).number) _ t tail.2 in
    let weight = then_ok (up_to 4294967295 (word_at 3 (map word_of fs)).number) _ t head.2 in
    let words : map word_of fs ≡ map word_of (ws.0 ∷ ws.1 ∷ ws.2 ∷ ws.3 ∷ []) = ap (map word_of) ws.4 in
    record {
      arc = record { tail = tail.0; head = head.0; weight = weight.0 };
      room = ltb-true (length s.arcs) s.announced room.0;
      after = (let z = weight.2 in cc);
      first = ws.0;
      tail = ws.1;
      head = ws.2;
      weight = ws.3;
      fields_are = ws.4;
      tail_is = ap (λ (l : List Word). (word_at 1 l).number) (sym words) ∙ vertex_is s.vertices (word_at 1 (map word_of fs)).number tail.0 tail.1;
      head_is = ap (λ (l : List Word). (word_at 2 l).number) (sym words) ∙ vertex_is s.vertices (word_at 2 (map word_of fs)).number head.0 head.1;
      weight_is = ap (λ (l : List Word). (word_at 3 l).number) (sym words) ∙ up_to_is 4294967295 (word_at 3 (map word_of fs)).number weight.0 weight.1;
    }

-- the problem line that was taken
record TookProblem (s : Option RoadsSoFar) (fs : List (List ℕ)) (t : Option RoadsSoFar) : Type 0 where
  vertices : ℕ
  announced : ℕ
  before : is_none s ≡ true
  after : t ≡ Some (record { vertices = vertices; announced = announced; arcs = [] })
  first : List ℕ
  n : List ℕ
  m : List ℕ
  fields_are : fs ≡ first ∷ codes "sp" ∷ n ∷ m ∷ []
  vertices_is : number n ≡ Some vertices
  arcs_is : number m ≡ Some announced

took_problem : (s : Option RoadsSoFar) (fs : List (List ℕ)) (t : Option RoadsSoFar) → gr_problem s (map word_of fs) ≡ Ok t → TookProblem s fs t
unfolding gr_problem
took_problem s fs t e =
    let before = unless_ok (is_none s) 11 _ t e in
    let many = unless_ok (length (map word_of fs) == 4) 12 _ t before.1 in
    let named = unless_ok (bytes_eq (word_at 1 (map word_of fs)).text (codes "sp")) 12 _ t many.1 in
    let ws = four fs many.0 in
    let vertices = then_ok (up_to 33554432 (word_at 2 (map word_of fs)).number) _ t named.1 in
    let announced = then_ok (up_to 134217728 (word_at 3 (map word_of fs)).number) _ t vertices.2 in
    let words : map word_of fs ≡ map word_of (ws.0 ∷ ws.1 ∷ ws.2 ∷ ws.3 ∷ []) = ap (map word_of) ws.4 in
    let sp : ws.1 ≡ codes "sp" = ap (λ (l : List Word). (word_at 1 l).text) (sym words) ∙ same_bytes (word_at 1 (map word_of fs)).text (codes "sp") named.0 in
    record {
      vertices = vertices.0;
      announced = announced.0;
      before = before.0;
      after = (let z = announced.2 in cc);
      first = ws.0;
      n = ws.2;
      m = ws.3;
      fields_are = ws.4 ∙ ap (λ x. ws.0 ∷ x ∷ ws.2 ∷ ws.3 ∷ []) sp;
      vertices_is = ap (λ (l : List Word). (word_at 2 l).number) (sym words) ∙ up_to_is 33554432 (word_at 2 (map word_of fs)).number vertices.0 vertices.1;
      arcs_is = ap (λ (l : List Word). (word_at 3 l).number) (sym words) ∙ up_to_is 134217728 (word_at 3 (map word_of fs)).number announced.0 announced.1;
    }

-- what a line did that broke no rule: nothing, or it is a problem line, or an arc line
data Took (s t : Option RoadsSoFar) (fs : List (List ℕ)) : Type 0 where
  Nothing : (same : s ≡ t) → (no_arc : bytes_eq (first_field fs) (codes "a") ≡ false) → (no_problem : bytes_eq (first_field fs) (codes "p") ≡ false) → Took s t fs
  Problem : (first : first_field fs ≡ codes "p") → (took : TookProblem s fs t) → Took s t fs
  Arc : (before after : RoadsSoFar) → (was : s ≡ Some before) → (is : t ≡ Some after) → (first : first_field fs ≡ codes "a") → (took : TookArc before fs after) → Took s t fs

other_bytes : (x y : List ℕ) → (x ≡ y → ⊥) → (b : Bool) → bytes_eq x y ≡ b → bytes_eq x y ≡ false
other_bytes x y differ true e = absurd (differ (same_bytes x y e))
other_bytes x y differ false e = e

took_arc_line : (s t : Option RoadsSoFar) (fs : List (List ℕ)) → first_field fs ≡ codes "a" → gr_arc s (map word_of fs) ≡ Ok t → Took s t fs
took_arc_line None t fs first e = cc
took_arc_line (Some r) t fs first e =
    let more = then_ok (one_arc r (map word_of fs)) _ t e in
    Arc r more.0 refl (let z = more.2 in cc) first (took_arc r fs more.0 more.1)

took_field : (s t : Option RoadsSoFar) (f : List ℕ) (fs : List (List ℕ)) (c p a : Bool) → (slice_index f 0 == 99) ≡ c → bytes_eq f (codes "p") ≡ p → bytes_eq f (codes "a") ≡ a
    → (if c then Ok s else if p then gr_problem s (map word_of (f ∷ fs)) else if a then gr_arc s (map word_of (f ∷ fs)) else Err 13) ≡ Ok t → Took s t (f ∷ fs)
took_field s t f fs true p a ec ep ea e =
    let n = eqb-true (slice_index f 0) 99 ec in
    let differ : (k : ℕ) → k ≢ 99 → (x : List ℕ) → slice_index x 0 ≡ k → f ≡ x → ⊥ = (λ k ne x at same. ne (sym at ∙ ap (λ y. slice_index y 0) (sym same) ∙ n)) in
    Nothing (let z = e in cc) (other_bytes f (codes "a") (differ 97 (λ q. omega (arith, q)) (codes "a") refl) a ea)
    (other_bytes f (codes "p") (differ 112 (λ q. omega (arith, q)) (codes "p") refl) p ep)
took_field s t f fs false true a ec ep ea e = Problem (same_bytes f (codes "p") ep) (took_problem s (f ∷ fs) t e)
took_field s t f fs false false true ec ep ea e = took_arc_line s t (f ∷ fs) (same_bytes f (codes "a") ea) e
took_field s t f fs false false false ec ep ea e = cc

-- the rule of a line that is not blank
line_of : (s : Option RoadsSoFar) (f : List ℕ) (fs : List (List ℕ)) → gr_line s (map word_of (f ∷ fs))
    ≡ (if slice_index f 0 == 99 then Ok s else if bytes_eq f (codes "p") then gr_problem s (map word_of (f ∷ fs)) else if bytes_eq f (codes "a") then gr_arc s (map word_of (f ∷ fs)) else Err 13)
unfolding gr_line
line_of s f fs = rw (ne_eqb (suc (length (map word_of fs))) 0 (λ q. omega (arith, q))) refl

took_line : (s t : Option RoadsSoFar) (fs : List (List ℕ)) → gr_line s (map word_of fs) ≡ Ok t → Took s t fs
unfolding gr_line
took_line s t [] e = Nothing (let z : ◌≡◌ {A = Result (Option RoadsSoFar) ℕ} (Ok s) (Ok t) = e in cc) refl refl
took_line s t (f ∷ fs) e = took_field s t f fs (slice_index f 0 == 99) (bytes_eq f (codes "p")) (bytes_eq f (codes "a")) refl refl refl (sym (line_of s f fs) ∙ e)

-- what the lines behind a problem line say: the arcs that come after those that were taken
record SayRest (s : RoadsSoFar) (ls : List (List ℕ)) (g : GraphData) : Type 0 where
  more : List RoadArc
  arcs_are : g.arcs ≡ s.arcs ++ more
  arcs : SayArcs (arc_lines ls) more
  vertices : g.vertices ≡ s.vertices
  announced : length g.arcs ≡ s.announced
  no_problem : problem_lines ls ≡ []

not_so : (b : Bool) → not b ≡ true → b ≡ false
not_so true e = cc
not_so false e = refl

say_end : (at : ℕ) (s : RoadsSoFar) (g : GraphData) → length s.arcs ≤ s.announced → at_line at (gr_end (Some s)) ≡ Ok g → SayRest s [] g
say_end at s g room e =
    let h = at_line_ok at (gr_end (Some s)) g e in
    let w = then_ok (gr_whole (Some s)) _ g h in
    let all = unless_ok (not (nat_lt (length s.arcs) s.announced)) 19 _ w.0 w.1 in
    let same : s ≡ w.0 = (let z = all.1 in cc) in
    let is : g ≡ graph_read s = (let z = w.2 in cc) in
    record {
      more = [];
      arcs_are = ap (λ (r : GraphData). r.arcs) is ∙ sym (append-nil s.arcs);
      arcs = tt;
      vertices = ap (λ (r : GraphData). r.vertices) is;
      announced = (let l : length g.arcs ≡ length s.arcs = ap (λ (r : GraphData). length r.arcs) is in let le =
          ltb-false (length s.arcs) s.announced (not_so (nat_lt (length s.arcs) s.announced) all.0) in omega (arith, l, le, room));
      no_problem = refl;
    }

-- which lines begin with the letters

taken_arc : (l : List ℕ) (ls : List (List ℕ)) → bytes_eq (first_field (fields l)) (codes "a") ≡ true → arc_lines (l ∷ ls) ≡ l ∷ arc_lines ls
taken_arc l ls e = rw e refl

taken_problem : (l : List ℕ) (ls : List (List ℕ)) → bytes_eq (first_field (fields l)) (codes "p") ≡ true → problem_lines (l ∷ ls) ≡ l ∷ problem_lines ls
taken_problem l ls e = rw e refl

arc_is_no_problem : (l : List ℕ) (ls : List (List ℕ)) → first_field (fields l) ≡ codes "a" → problem_lines (l ∷ ls) ≡ problem_lines ls
arc_is_no_problem l ls e = rw e refl

problem_is_no_arc : (l : List ℕ) (ls : List (List ℕ)) → first_field (fields l) ≡ codes "p" → arc_lines (l ∷ ls) ≡ arc_lines ls
problem_is_no_arc l ls e = rw e refl

module _ (g : GraphData) where
  passed_over : (l : List ℕ) (ls : List (List ℕ)) → bytes_eq (first_field (fields l)) (codes "a") ≡ false → bytes_eq (first_field (fields l)) (codes "p") ≡ false
      → (arc_lines (l ∷ ls) ≡ arc_lines ls) × (problem_lines (l ∷ ls) ≡ problem_lines ls)
  passed_over l ls a p = (rw a refl, rw p refl)

  begins_so : (l w : List ℕ) → first_field (fields l) ≡ w → bytes_eq (first_field (fields l)) w ≡ true
  begins_so l w e = (bytes_eq-Decides (first_field (fields l)) w).1 e

  say_arc : (l : List ℕ) (r t : RoadsSoFar) → first_field (fields l) ≡ codes "a" → (k : TookArc r (fields l) t) → SaysArc l k.arc
  say_arc l r t first k = record {
    tail = k.tail;
    head = k.head;
    weight = k.weight;
    fields_are = k.fields_are ∙ ap (λ x. x ∷ k.tail ∷ k.head ∷ k.weight ∷ []) (ap first_field (sym k.fields_are) ∙ first);
    tail_is = k.tail_is;
    head_is = k.head_is;
    weight_is = k.weight_is;
  }

  -- what the lines from a number on say, behind a problem line
  abbrev Behind : ℕ → List (List ℕ) → Type 0
  Behind at ls = (s : RoadsSoFar) → length s.arcs ≤ s.announced → value_of_lines false gr_rules at (Some s) ls ≡ Ok g → SayRest s ls g

  say_line : (at : ℕ) (s : RoadsSoFar) (l : List ℕ) (ls : List (List ℕ)) (t : Option RoadsSoFar) → Behind (at + 1) ls → length s.arcs ≤ s.announced → Took (Some s) t (fields l) →
      value_of_lines false gr_rules (at + 1) t ls ≡ Ok g → SayRest s (l ∷ ls) g
  say_line at s l ls t behind room (Nothing same a p) e =
      let r = behind s room (subst (λ (u : Option RoadsSoFar). value_of_lines false gr_rules (at + 1) u ls ≡ Ok g) (sym same) e) in
      let over = passed_over l ls a p in
      record { more = r.more; arcs_are = r.arcs_are; arcs = subst (λ ks. SayArcs ks r.more) (sym over.0) r.arcs; vertices = r.vertices; announced = r.announced; no_problem = over.1 ∙ r.no_problem }
  say_line at s l ls t behind room (Problem first k) e = let z = k.before in cc
  say_line at s l ls t behind room (Arc before after was is first k) e =
      let old : s ≡ before = cc in
      let now : t ≡ Some (record s { arcs = s.arcs ++ k.arc ∷ [] }) = is ∙ ap (λ (u : RoadsSoFar). Some u) k.after
      ∙ ap (λ (u : RoadsSoFar). Some (record u { arcs = u.arcs ++ k.arc ∷ [] })) (sym old) in
      let place : length s.arcs < s.announced = subst (λ (u : RoadsSoFar). length u.arcs < u.announced) (sym old) k.room in
      let r = behind (record s { arcs = s.arcs ++ k.arc ∷ [] }) (let n = length-append s.arcs (k.arc ∷ []) in omega (arith, n, place))
      (subst (λ (u : Option RoadsSoFar). value_of_lines false gr_rules (at + 1) u ls ≡ Ok g) now e) in
      record {
        more = k.arc ∷ r.more;
        arcs_are = r.arcs_are ∙ append_assoc s.arcs (k.arc ∷ []) r.more;
        arcs = subst (λ ks. SayArcs ks (k.arc ∷ r.more)) (sym (taken_arc l ls (begins_so l (codes "a") first))) (say_arc l before after first k, r.arcs);
        vertices = r.vertices;
        announced = r.announced;
        no_problem = arc_is_no_problem l ls first ∙ r.no_problem;
      }

  say_more : (at : ℕ) (ls : List (List ℕ)) → Behind at ls
  say_more at [] = λ s room e. say_end at s g room e
  say_more at (l ∷ ls) = λ s room e.
      let h = then_ok (at_line at (gr_line (Some s) (map word_of (fields l)))) _ g e in
      say_line at s l ls h.0 (say_more (at + 1) ls) room (took_line (Some s) h.0 (fields l) (at_line_ok at (gr_line (Some s) (map word_of (fields l))) h.0 h.1)) h.2

  say_first : (at : ℕ) (l : List ℕ) (ls : List (List ℕ)) (t : Option RoadsSoFar) → (value_of_lines false gr_rules (at + 1) None ls ≡ Ok g → SayGraph ls g) →
      Took None t (fields l) → value_of_lines false gr_rules (at + 1) t ls ≡ Ok g → SayGraph (l ∷ ls) g
  say_first at l ls t before_problem (Nothing same a p) e =
      let r = before_problem (subst (λ (u : Option RoadsSoFar). value_of_lines false gr_rules (at + 1) u ls ≡ Ok g) (sym same) e) in
      let over = passed_over l ls a p in
      record { arcs = subst (λ ks. SayArcs ks g.arcs) (sym over.0) r.arcs; problem = r.problem; only_problem = over.1 ∙ r.only_problem; sizes = r.sizes }
  say_first at l ls t before_problem (Arc before after was is first k) e = cc
  say_first at l ls t before_problem (Problem first k) e =
      let start : RoadsSoFar = record { vertices = k.vertices; announced = k.announced; arcs = [] } in
      let r = say_more (at + 1) ls start (omega arith) (subst (λ (u : Option RoadsSoFar). value_of_lines false gr_rules (at + 1) u ls ≡ Ok g) k.after e) in
      record {
        arcs = subst (λ ks. SayArcs ks g.arcs) (sym (problem_is_no_arc l ls first)) (subst (SayArcs (arc_lines ls)) (sym r.arcs_are) r.arcs);
        problem = l;
        only_problem = taken_problem l ls (begins_so l (codes "p") first) ∙ ap (λ ks. l ∷ ks) r.no_problem;
        sizes = record {
          n = k.n;
          m = k.m;
          fields_are = k.fields_are ∙ ap (λ x. x ∷ codes "sp" ∷ k.n ∷ k.m ∷ []) (ap first_field (sym k.fields_are) ∙ first);
          vertices_is = k.vertices_is ∙ ap (λ (n : ℕ). Some n) (sym r.vertices);
          arcs_is = k.arcs_is ∙ ap (λ (n : ℕ). Some n) (sym r.announced);
        };
      }

  say_all : (at : ℕ) (ls : List (List ℕ)) → value_of_lines false gr_rules at None ls ≡ Ok g → SayGraph ls g
  say_all at [] e = cc
  say_all at (l ∷ ls) e =
      let h = then_ok (at_line at (gr_line None (map word_of (fields l)))) _ g e in
      say_first at l ls h.0 (say_all (at + 1) ls) (took_line None h.0 (fields l) (at_line_ok at (gr_line None (map word_of (fields l))) h.0 h.1)) h.2

  -- a text that is too long is no graph
  cut_is_none : (at : ℕ) (s : Option RoadsSoFar) (ls : List (List ℕ)) → value_of_lines true gr_rules at s ls ≡ Ok g → ⊥
  cut_is_none at s [] e = cc
  cut_is_none at s (l ∷ ls) e =
      let h = then_ok (at_line at (gr_line s (map word_of (fields l)))) _ g e in cut_is_none (at + 1) h.0 ls h.2

  by_length : (bytes : List ℕ) (b : Bool) → (if b then value_of_lines true gr_rules 1 None (lines true (take 4294967296 bytes)) else text_value gr_rules bytes) ≡ Ok g → SayGraph (lines false bytes) g
  by_length bytes true e = absurd (cut_is_none 1 None (lines true (take 4294967296 bytes)) e)
  by_length bytes false e = say_all 1 (lines false bytes) e

-- the lines of a text that is read as a graph say it
pub lines_say : (bytes : List ℕ) (g : GraphData) → text_read gr_rules bytes ≡ Ok g → SayGraph (lines false bytes) g
lines_say bytes g e = by_length g bytes (nat_lt 4294967296 (length bytes)) e
