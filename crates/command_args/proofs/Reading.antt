-- What is read of matches, as their rows say it.
use Rattle.std.proofs.Common.{◌≡◌, ℕ, List, Option, Some, None, Result, refl, ap, sym, ◌∙◌, unwrap_or}
use Rattle.command_args.proofs.Words.{option_map, Reads}
use Rattle.std.specs.Str.Parse.{ParsesUnsigned}
use Rattle.clap.specs.Matches.{ReadsOne}

-- what `get_one` gives is what the text spells
pub reads : {E : Type 0} (P Q : List ℕ → Result ℕ E → Type 0) (bits : ℕ) (text : Option (List ℕ)) (n : Option ℕ) → (text ≡ None → n ≡ None)
    → ((t : List ℕ) → text ≡ Some t → ReadsOne (λ u r. ParsesUnsigned bits 10 u r × P u r × Q u r) t n) → Reads bits text n
reads P Q bits None n none some = none refl
reads P Q bits (Some t) None none some = (some t refl).1.0
reads P Q bits (Some t) (Some v) none some = (some t refl).0

-- a pair that is known by its halves
pub both : {B X Y : Type 0} (f : B → X) (g : B → Y) (found : Option B) (x : X) (y : Y) → Some x ≡ option_map f found
    → Some y ≡ option_map {T = X × Y} {U = Y} (λ p. p.1) (option_map {T = B} {U = X × Y} (λ b. (f b, g b)) found)
    → option_map {T = B} {U = X × Y} (λ b. (f b, g b)) found ≡ Some (x, y)
both f g None x y first second = cc
both f g (Some b) x y first second =
    ap (λ p. Some (unwrap_or p (f b), g b)) (sym first) ∙ ap (λ p. Some (x, unwrap_or p (g b))) (sym second)

pub neither : {B X Y : Type 0} (f : B → X) (g : B → Y) (found : Option B) → None ≡ option_map f found
    → option_map {T = B} {U = X × Y} (λ b. (f b, g b)) found ≡ None
neither f g None first = refl
neither f g (Some b) first = cc
