use Rattle.text_lines.proofs.Words.{Bool, ◌≡◌, ℕ, ◌+◌, ◌-◌, ◌≤◌, List, ◌++◌, take, length, Result, false, ReadFault, RestGives}
use Rattle.text_lines.proofs.reader.LineReader.feed.Given as goal

-- what follows gives, the bytes so far and then that give; and the bytes are counted
abbrev pub invariant-loop-at : goal.invariant-loop-at
invariant-loop-at g l = record {
  rest_gives : (cut : Bool) (more : List ℕ) (r : Result g.row.T-Value.Denot ReadFault) → RestGives cut g.T.LineParser.meaning l.self more r →
      RestGives cut g.T.LineParser.meaning l.initial.self (take l.at l.bytes ++ more) r;
  count : l.self.count ≡ l.initial.self.count + l.at;
  given : l.self.cutter.taker.refused ≡ false;
  within : l.at ≤ length l.bytes;
}

abbrev pub decreases-loop-at : goal.decreases-loop-at
decreases-loop-at g l = length l.bytes - l.at
