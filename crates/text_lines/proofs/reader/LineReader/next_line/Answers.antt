use Rattle.text_lines.proofs.Words.{◌≡◌, ◌≤◌, ℕ, ◌+◌, ◌-◌, ◌++◌, List, length, take, drop, arith, sym, ap, ◌∙◌, take-append-drop, EndsLine, StaysInLine, SoFarOf}
use Rattle.std.proofs.lemmas.List.{take_all, take-take, length-take, length-take-le}
use Rattle.text_lines.proofs.ReaderLaws.{none_fits, line_goes_on, line_taken, line_halts}
use Rattle.text_lines.proofs.reader.LineReader.next_line.Goals as goal

-- what is taken of a prefix is taken of the whole
taken_of : (xs : List ℕ) (n m : ℕ) → n ≤ length (take m xs) → take n (take m xs) ≡ take n xs
taken_of xs n m le = take-take n m xs (omega (arith, length-take m xs))

all_of : (xs : List ℕ) (n m : ℕ) → n ≡ length (take m xs) → take m xs ≡ take n xs
all_of xs n m e = sym (take_all n (take m xs) (omega arith)) ∙ taken_of xs n m (omega arith)

pub returns-then-room-eq0-clause-err : goal.returns-then-room-eq0-clause-err
returns-then-room-eq0-clause-err g c =
    none_fits g.T.LineParser.meaning c.args.self.now c.args.bytes.now g.met.T.LineParser.stops_short (omega (arith, c.if-room-eq0.true, c.args.self.now.few_bytes)) c.requires.some

pub returns-then-not-ended-clause-rest_gives : goal.returns-then-not-ended-clause-rest_gives
returns-then-not-ended-clause-rest_gives g c =
    let xs : List ℕ = c.args.bytes.now in
    let n : ℕ = c.to_line_end-taken.result.0 in
    let m : ℕ = c.min-to.result in
    let stays : StaysInLine (SoFarOf g.T.LineParser.meaning) c.args.self.now.cutter c.to_line_end-taken.new.self (take m xs) n = rw c.if-not-ended.true at c.to_line_end-taken.ensures.cut in
    λ cut more r h. rw (← all_of xs n m stays.all)
    (line_goes_on g.T.LineParser.meaning c.args.self.now.cutter c.to_line_end-taken.new.self c.args.self.now.line (take m xs) n stays c.to_line_end-taken.ensures.kept c.if-self.false cut more r h)

pub returns-in-Ok-clause-rest_gives : goal.returns-in-Ok-clause-rest_gives
returns-in-Ok-clause-rest_gives g c =
    let xs : List ℕ = c.args.bytes.now in
    let n : ℕ = c.to_line_end-taken.result.0 in
    let m : ℕ = c.min-to.result in
    let ends : EndsLine (SoFarOf g.T.LineParser.meaning) c.args.self.now.cutter c.to_line_end-taken.new.self (take n (take m xs)) = rw c.if-not-ended.false at c.to_line_end-taken.ensures.cut in
    λ cut more r h. rw (← taken_of xs n m c.to_line_end-taken.ensures.bound)
    (line_taken g.T.LineParser.meaning {A = Unit {0}} c.args.self.now.cutter c.to_line_end-taken.new.self c.end_line.new.self.cutter c.args.self.now.line c.end_line.new.self.line
    (take n (take m xs)) tt c.in-Ok.ensures.next.0 ends c.to_line_end-taken.ensures.kept c.if-self.false c.in-Ok.ensures.ready (λ l here. c.in-Ok.ensures.line l here) cut more r h)

pub returns-in-Err-clause-err : goal.returns-in-Err-clause-err
returns-in-Err-clause-err g c =
    let xs : List ℕ = c.args.bytes.now in
    let n : ℕ = c.to_line_end-taken.result.0 in
    let m : ℕ = c.min-to.result in
    let ends : EndsLine (SoFarOf g.T.LineParser.meaning) c.args.self.now.cutter c.to_line_end-taken.new.self (take n (take m xs)) = rw c.if-not-ended.false at c.to_line_end-taken.ensures.cut in
    let le = c.to_line_end-taken.ensures.bound in
    let fits : n ≤ 4294967296 - c.args.self.now.count = omega (arith, le, length-take m xs, c.min-to.ensures) in
    let count : c.args.self.now.count + length (take n (take m xs)) ≤ 4294967296 = omega (arith, fits, length-take-le n (take m xs) le, c.args.self.now.few_bytes) in
    line_halts g.T.LineParser.meaning c.args.self.now c.to_line_end-taken.new.self c.end_line.new.self.cutter.taker.parser xs (take n (take m xs))
    (drop n xs) c.in-Err.halt c.end_line.result c.in-Err.is c.in-Err.ensures.kinds
    (sym (take-append-drop n xs) ∙ ap (λ x. x ++ drop n xs) (sym (taken_of xs n m le))) count
    (omega (arith, c.if-room-eq0.false)) ends c.to_line_end-taken.ensures.kept c.if-self.false (λ l here. c.end_line.ensures.line l here)
