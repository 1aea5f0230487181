-- A name among other names.
use Rattle.std.proofs.Common.{◌∙◌, ◌<◌, List, ap, map, subst, sym}
use Rattle.std.proofs.lemmas.List.{get_or-map, length-map}
use Rattle.std.proofs.lemmas.List.Elements.{All-map}
use Rattle.std.specs.List.{All, Any}

pub any_map : {X Y : Type 0} (P : Y → Type 0) (f : X → Y) (xs : List X) → Any (λ x. P (f x)) xs → Any P (map f xs)
any_map P f xs any =
    (any.0, f any.1, subst (λ n. any.0 < n) (sym (length-map xs f)) any.2, get_or-map f xs any.0 any.1 (f any.1) any.2 ∙ ap f any.3, any.4)

pub all_map : {X Y : Type 0} (P : Y → Type 0) (f : X → Y) (xs : List X) → All (λ x. P (f x)) xs → All P (map f xs)
all_map P f xs all = All-map P f xs all
