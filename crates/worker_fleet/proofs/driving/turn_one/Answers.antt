use Rattle.std.proofs.Common.{◌≡◌, ◌∙◌, refl}
use Rattle.std.proofs.lemmas.Option.{get_or_from_slice_get}
use Rattle.worker_fleet.proofs.driving.turn_one.Goals as goal

pub returns : goal.returns
returns g c =
    let same : c.index-floors-place.result ≡ c.requires.floor =
    c.index-floors-place.is ∙ get_or_from_slice_get c.args.floors.now c.args.placed.now.0 c.requires.floor _ c.requires.is_floor in
    record {
      place = refl;
      floor = c.requires.floor;
      is_floor = c.requires.is_floor;
      report = c.turn.result;
      turned = rw same at c.turn.ensures.turned;
    }
