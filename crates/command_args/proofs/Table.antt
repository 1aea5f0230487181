-- Three words that ask for the table of faults.
use Rattle.std.proofs.Common.{◌≡◌, ◌∙◌, ℕ, ◌≤◌, ◌<◌, List, [], ◌∷◌, String, Global, ap, ap₂, arith, codes, get_or, length, map, string_bytes, sym}
use Rattle.command_args.specs.Asked.{AskForTable}

abbrev texts : List (String Global) → List (List ℕ)
texts = map (λ word. string_bytes word)

pub asks : (ws : List (String Global)) (h f : String Global) → 3 ≤ length ws → length ws < 4 → h ≡ get_or ws 1 h → f ≡ get_or ws 2 f
    → string_bytes h ≡ codes "help" → string_bytes f ≡ codes "faults" → AskForTable (texts ws)
asks [] h f low high first second help faults = absurd (omega arith)
asks (a ∷ []) h f low high first second help faults = absurd (omega arith)
asks (a ∷ b ∷ []) h f low high first second help faults = absurd (omega arith)
asks (a ∷ b ∷ c ∷ []) h f low high first second help faults =
    (string_bytes a, ap₂ (λ x y. string_bytes a ∷ x ∷ y ∷ []) (ap string_bytes (sym first) ∙ help) (ap string_bytes (sym second) ∙ faults))
asks (a ∷ b ∷ c ∷ d ∷ ws) h f low high first second help faults = absurd (omega arith)

pub says_faults : (ws : List (String Global)) (f : String Global) → 3 ≤ length ws → length ws < 4 → f ≡ get_or ws 2 f → AskForTable (texts ws)
    → string_bytes f ≡ codes "faults"
says_faults [] f low high second asked = absurd (omega arith)
says_faults (a ∷ []) f low high second asked = absurd (omega arith)
says_faults (a ∷ b ∷ []) f low high second asked = absurd (omega arith)
says_faults (a ∷ b ∷ c ∷ []) f low high second asked = ap string_bytes second ∙ ap (λ xs. get_or xs 2 []) asked.1
says_faults (a ∷ b ∷ c ∷ d ∷ ws) f low high second asked = absurd (omega arith)
