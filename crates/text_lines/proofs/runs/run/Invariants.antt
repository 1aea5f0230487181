use Rattle.text_lines.proofs.Words.{◌≡◌, ◌≤◌, ◌-◌, length, take, true, All, is_plain, number_with}
use Rattle.text_lines.proofs.runs.run.Given as goal

-- the bytes so far go on with a field, and are taken into the number
abbrev pub invariant-loop-prefix : goal.invariant-loop-prefix
invariant-loop-prefix l = record {
  within : l.prefix ≤ length l.bytes;
  plain : All (λ b. is_plain b ≡ true) (take l.prefix l.bytes);
  number : l.grown ≡ number_with l.fn.number (take l.prefix l.bytes);
}

abbrev pub decreases-loop-prefix : goal.decreases-loop-prefix
decreases-loop-prefix l = length l.bytes - l.prefix
