use Rattle.std.proofs.Common.{false, subst}
use Rattle.std.specs.List.{All}
use Rattle.std.proofs.lemmas.List.{take_all}
use Rattle.std.proofs.lemmas.List.Elements.{All-more}
use Rattle.command_files.proofs.Among.{all_map}
use Rattle.command_files.proofs.creating.is_among.Goals as goal

pub loop-other-preserved : goal.loop-other-preserved
loop-other-preserved g c = All-more (λ other. g.P.FileSystem.tells_same c.args.files.now c.args.path.now other.now false) c.args.others.now c.loop-other.other-index _ c.loop-other-test.true
    c.loop-other.invariant c.if-is_same_file.ensures.tells

pub returns : goal.returns
returns g c = all_map (λ name. g.P.FileSystem.tells_same c.args.files.now c.args.path.now name false) (λ name. name.now) c.args.others.now
    (subst (All (λ other. g.P.FileSystem.tells_same c.args.files.now c.args.path.now other.now false)) (take_all c.loop-other.other-index c.args.others.now c.loop-other-test.false) c.loop-other.invariant)
