-- What a command works with, at a moment.
use Rattle.text_lines.specs.Streams.{Output}
use Rattle.command_files.specs.declared.host.Host.{Host}

-- its files, its output and its error output
pub record Moment (P W E : Type 0) : Type 0 where
  pub files : P
  pub out : Output W
  pub errors : Output E

-- of a host, as its two writers show themselves
abbrev pub moment : {S P W E F I N : Type 0} → (W → Output W) → (E → Output E) → Host S P W E F I N → Moment P W E
moment seen shown host = record {
  files = host.files;
  out = seen host.out;
  errors = shown host.errors;
}
