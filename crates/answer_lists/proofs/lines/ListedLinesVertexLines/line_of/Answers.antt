use Rattle.answer_lists.proofs.Words.{◌∙◌, sym, ap, refl, arith, length, label_of, lines_of}
use Rattle.answer_lists.proofs.Filling.{label_there}
use Rattle.answer_lists.proofs.Spelled.{lines_count}
use Rattle.answer_lists.proofs.lines.ListedLinesVertexLines.line_of.Goals as goal

pub bounds-self-i : goal.bounds-self-i
bounds-self-i c =
    let l = c.args.self.now in let t = l.tree in
    let count = lines_count t.codes.now t.hops.now t.parents.now l.as_many_hops l.as_many_parents in
    omega (arith, c.requires.low, c.requires.high, c.v.view_is, count, l.as_many_hops, l.as_many_parents)

pub bounds-self-i-2 : goal.bounds-self-i-2
bounds-self-i-2 c =
    let l = c.args.self.now in let t = l.tree in
    let count = lines_count t.codes.now t.hops.now t.parents.now l.as_many_hops l.as_many_parents in
    omega (arith, c.requires.low, c.requires.high, c.v.view_is, count, l.as_many_hops, l.as_many_parents)

pub bounds-self-i-3 : goal.bounds-self-i-3
bounds-self-i-3 c =
    let l = c.args.self.now in let t = l.tree in
    let count = lines_count t.codes.now t.hops.now t.parents.now l.as_many_hops l.as_many_parents in
    omega (arith, c.requires.low, c.requires.high, c.v.view_is, count, l.as_many_hops, l.as_many_parents)

pub returns : goal.returns
returns c =
    let l = c.args.self.now in let t = l.tree in
    let same = c.v.view_is in
    let count = lines_count t.codes.now t.hops.now t.parents.now l.as_many_hops l.as_many_parents in
    let there = label_there (length t.codes.now) t.codes.now t.hops.now t.parents.now (refl, l.as_many_hops, l.as_many_parents) c.v.inside.0
    (omega (arith, c.requires.low, c.requires.high, same, count)) in
    c.line_of.ensures ∙ sym there ∙ ap (label_of (lines_of t.codes.now t.hops.now t.parents.now)) same
