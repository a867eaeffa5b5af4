-- The limits of forms. Levels and bytes of a type or value are a record, handed to every call; 01's figures are `standard`.
use Rattle.std.specs.Prelude.{ℕ, Bool, ◌&&◌, leb}

-- How many levels a type or value may have, and how many bytes; an answer has no more bytes either.
pub record Limits : Type 0 where
  pub levels : ℕ
  pub bytes : ℕ

-- 16 levels, 4,096 bytes: what the programs use.
abbrev pub standard : Limits
standard = record { levels = 16; bytes = 4096 }

-- The most levels that a record of limits may give.
abbrev pub most_levels : ℕ
most_levels = 32

-- The fewest bytes.
abbrev pub fewest_bytes : ℕ
fewest_bytes = 64

-- The most bytes.
abbrev pub most_bytes : ℕ
most_bytes = 8192

-- Is each limit within its range: 1 to 32 levels, 64 to 8,192 bytes?
abbrev pub allowed : Limits → Bool
allowed lim = (leb 1 lim.levels && leb lim.levels most_levels) && (leb fewest_bytes lim.bytes && leb lim.bytes most_bytes)

-- The largest schema, list or job.
abbrev pub block_bytes : ℕ
block_bytes = 32768

-- The most entity types of a schema.
abbrev pub max_entities : ℕ
max_entities = 256

-- The most actions of a schema.
abbrev pub max_actions : ℕ
max_actions = 256

-- The most functions of a schema.
abbrev pub max_functions : ℕ
max_functions = 64

-- The most types of a list.
abbrev pub max_listed : ℕ
max_listed = 64
