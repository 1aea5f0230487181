use Rattle.road_files.proofs.Words.{◌<◌, ◌∙◌, ap, arith, Word, one_vertex_more, sources_given}
use Rattle.road_files.proofs.ListFields.{next_field, on_both}
use Rattle.road_files.proofs.present_list.PresentList.field.Goals as goal

pub returns-then-self-clause-told : goal.returns-then-self-clause-told
returns-then-self-clause-told c =
    let small : c.args.self.now.vertices < 18446744073709551616 = omega (arith, c.args.self.now.few) in
    let some : 0 < c.args.self.now.count = omega arith in
    on_both c.add.result c.add.ensures.sources c.add.ensures.rest (λ given rest fs f h e. next_field c.args.self.now c.add.new.self fs f small h some c.if-self-gt-MAX_FIELDS.false
    c.add.ensures.vertices rest.0 rest.1
    (λ _. given ∙ ap (λ (w : Word). one_vertex_more c.args.self.now.vertices (sources_given c.args.self.now) w.number) e))
