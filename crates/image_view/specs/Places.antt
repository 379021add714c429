-- The places of a view: each a byte or missing, and the chunk that gives it.
use Rattle.std.specs.Prelude.{◌≡◌, ℕ, ◌+◌, ◌-◌, ◌/◌, ◌%◌, ◌^◌, ◌≤◌, ◌<◌, ◌&&◌, Bool, true, false, nat_le, nat_lt, if◌then◌else◌, List, [], ◌∷◌, length, slice_index_or, slice_get, Option, Some, None, map}
use Rattle.std.specs.List.{range_with_len, All}
use Rattle.snapshot_file.specs.Memory.{Run, item_at}
use Rattle.image_view.specs.declared.chunk.Src.{Src}
use Rattle.image_view.specs.declared.chunk.Src.TheVariants as src
use Rattle.image_view.specs.declared.chunk.Chunk.{Chunk}
use Rattle.image_view.specs.declared.chunk.Source.{Source}
use Rattle.image_view.specs.declared.chunk.Source.TheVariants as source

-- a byte or missing, and the number of the chunk that gives the place, with whether that is a number
pub record Place : Type 0 where
  pub item : Option ℕ
  pub giver : Option (ℕ × Bool)

-- the part of memory that a view stands for
abbrev pub part_of : List Place → List (Option ℕ)
part_of places = map (λ p. p.item) places

-- item j of what a chunk takes from
abbrev pub item_of : List Run → Src → ℕ → Option ℕ
item_of mem (src.Mem a) j = item_at mem (a + j)
item_of mem (src.Bytes bytes) j = slice_get bytes.now j
item_of mem (src.Num n) j = if nat_lt j 8 then Some (n / 256 ^ j % 256) else None
item_of mem src.Missing j = None

abbrev pub is_number : Src → Bool
is_number (src.Num n) = true
is_number _ = false

-- the chunk has the place
abbrev pub covers : Chunk → ℕ → Bool
covers chunk i = nat_le chunk.off i && nat_lt i (chunk.off + chunk.len)

-- what the chunks, numbered from k on, give at a place
abbrev pub chunk_place : List Run → List Chunk → ℕ → ℕ → Place
chunk_place mem [] k i = record { item = None; giver = None }
chunk_place mem (chunk ∷ chunks) k i =
    if covers chunk i then record { item = item_of mem chunk.src (i - chunk.off); giver = Some (k, is_number chunk.src) }
    else chunk_place mem chunks (k + 1) i

-- what stands at a place
abbrev pub place : List Run → Source → ℕ → Place
place mem (source.Memory at) i = record { item = item_at mem (at + i); giver = Some (0, false) }
place mem (source.Chunks chunks) i = chunk_place mem chunks.now 0 i

-- so many places from one on
abbrev pub places : List Run → Source → ℕ → ℕ → List Place
places mem source from len = map (place mem source) (range_with_len from len)

-- each chunk begins at or past the end of the one before
abbrev pub Rise : ℕ → List Chunk → Type 0
Rise from [] = Unit {0}
Rise from (chunk ∷ chunks) = (from ≤ chunk.off) × Rise (chunk.off + chunk.len) chunks

abbrev pub Rises : Source → Type 0
Rises (source.Memory at) = Unit {0}
Rises (source.Chunks chunks) = Rise 0 chunks.now

-- every place is given by this chunk, which is no number
abbrev pub AllIn : ℕ → List Place → Type 0
AllIn k [] = Unit {0}
AllIn k (p ∷ places) = (p.giver ≡ Some (k, false)) × AllIn k places

-- all places stand in one chunk, which is no number
abbrev pub InOneChunk : List Place → Type 0
InOneChunk places = (k : ℕ) × AllIn k places

-- no chunk has the place
abbrev pub Uncovered : List Chunk → ℕ → Type 0
Uncovered chunks i = All (λ c. covers c i ≡ false) chunks

-- the chunk of this number has the place
abbrev pub CoveredBy : List Chunk → ℕ → ℕ → Type 0
CoveredBy chunks i k = (k < length chunks) × ((d : Chunk) → covers (slice_index_or chunks k d) i ≡ true)

-- so many items of what a chunk takes from
abbrev pub items_from : List Run → Src → ℕ → ℕ → List (Option ℕ)
items_from mem src off len = map (item_of mem src) (range_with_len off len)

abbrev pub slice_items : List ℕ → ℕ → ℕ → List (Option ℕ)
slice_items bytes off len = map (slice_get bytes) (range_with_len off len)

-- so many places of chunks
abbrev pub chunk_places : List Run → List Chunk → ℕ → ℕ → List Place
chunk_places mem chunks from len = map (chunk_place mem chunks 0) (range_with_len from len)
