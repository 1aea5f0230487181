use Rattle.question_solvers.proofs.Searches.{added_all, added_is_next}
use Rattle.question_solvers.proofs.ahead.add_next.Goals as goal

pub returns : goal.returns
returns g c = record {
  each = added_all _ _ _ c.args.i c.args.next c.args.ahead.now.items c.add.new.searched.items c.requires.next c.add.result c.requires.place c.add.ensures.added c.add.ensures.kept c.requires.ahead;
  next = added_is_next _ _ _ c.args.i c.args.next c.args.ahead.now.items c.add.new.searched.items c.requires.next c.add.result c.add.ensures.added;
}
