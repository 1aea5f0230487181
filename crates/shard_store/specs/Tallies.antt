-- Counters that stop at their top.
use Rattle.std.specs.Prelude.{ℕ, ◌+◌, ◌-◌, ◌^◌, min, leb, ◌||◌}
use Rattle.scholten_core.specs.Accounts.{Totals}
use Rattle.shard_store.specs.declared.tally.Tally.{Tally}

-- the greatest number that a counter shows
abbrev pub top : ℕ
top = 2 ^ 64 - 1

-- a counter after k more
abbrev pub counted_on : ℕ → ℕ → ℕ
counted_on k n = min (n + k) top

abbrev pub more_sent : ℕ → Tally → Tally
more_sent k t = record { sent = counted_on k t.sent; delivered = t.delivered; signalled = t.signalled; accepted = t.accepted; full = t.full || leb top (t.sent + k) }

abbrev pub more_delivered : ℕ → Tally → Tally
more_delivered k t = record { sent = t.sent; delivered = counted_on k t.delivered; signalled = t.signalled; accepted = t.accepted; full = t.full || leb top (t.delivered + k) }

abbrev pub more_signalled : ℕ → Tally → Tally
more_signalled k t = record { sent = t.sent; delivered = t.delivered; signalled = counted_on k t.signalled; accepted = t.accepted; full = t.full || leb top (t.signalled + k) }

abbrev pub more_accepted : ℕ → Tally → Tally
more_accepted k t = record { sent = t.sent; delivered = t.delivered; signalled = t.signalled; accepted = counted_on k t.accepted; full = t.full || leb top (t.accepted + k) }

-- the counts of both: each counter is the sum, held at the top; full if one of them reaches the
-- top, or if one of the two was full
abbrev pub together : Tally → Tally → Tally
together o t = record {
  sent = counted_on o.sent t.sent;
  delivered = counted_on o.delivered t.delivered;
  signalled = counted_on o.signalled t.signalled;
  accepted = counted_on o.accepted t.accepted;
  full = t.full || leb top (t.sent + o.sent) || leb top (t.delivered + o.delivered) || leb top (t.signalled + o.signalled) || leb top (t.accepted + o.accepted) || o.full;
}

-- the tally that shows these totals: each counter is the lesser of its total and the top, and it is
-- full exactly if a total reaches the top
abbrev pub tally_of : Totals → Tally
tally_of n = record {
  sent = min n.sent top;
  delivered = min n.delivered top;
  signalled = min n.signalled top;
  accepted = min n.accepted top;
  full = leb top n.sent || leb top n.delivered || leb top n.signalled || leb top n.accepted;
}
