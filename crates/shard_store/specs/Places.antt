-- What a vertex and an arc with their places are seen as.
use Rattle.std.specs.Prelude.{ℕ}

pub record VertexAt : Type 0 where
  pub vertex : ℕ
  pub at : ℕ

pub record ArcAt : Type 0 where
  pub arc : ℕ
  pub at : ℕ
