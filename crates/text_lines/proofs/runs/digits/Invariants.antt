use Rattle.text_lines.proofs.Words.{◌≡◌, ◌≤◌, ◌-◌, length, take, true, All, Some, is_ascii_digit, is_plain, number_with}
use Rattle.text_lines.proofs.runs.digits.Given as goal

-- the bytes so far are digits, and are taken into the number
abbrev pub invariant-loop-prefix : goal.invariant-loop-prefix
invariant-loop-prefix l = record {
  within : l.prefix ≤ length l.bytes;
  digits : All (λ b. is_ascii_digit b ≡ true) (take l.prefix l.bytes);
  plain : All (λ b. is_plain b ≡ true) (take l.prefix l.bytes);
  number : Some l.grown ≡ number_with (Some l.fn.number) (take l.prefix l.bytes);
}

abbrev pub decreases-loop-prefix : goal.decreases-loop-prefix
decreases-loop-prefix l = length l.bytes - l.prefix
