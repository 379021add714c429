-- The chunks of a location's pieces.
use Rattle.std.proofs.Common.{◌≡◌, ◌∙◌, sym, ap, refl, ℕ, ◌+◌, ◌-◌, ◌≤◌, min, List, [], ◌∷◌, ◌++◌, length, take, replicate, Option, None, arith}
use Rattle.std.proofs.Common.{length-append, append-nil}
use Rattle.std.proofs.lemmas.Grind.{flat_map-append}
use Rattle.std.proofs.lemmas.List.FromFn.{length-map-range_with_len, take-map-range_with_len}
use Rattle.snapshot_file.specs.Memory.{Run}
use Rattle.snapshot_file.specs.declared.snapshot.Snapshot.{Snapshot}
use Rattle.image_view.specs.declared.chunk.Chunk.{Chunk}
use Rattle.image_view.specs.Places.{item_of, chunk_places, part_of, items_from}
use Rattle.layout_set.specs.declared.func.Piece.{Piece}
use Rattle.layout_values.specs.Contexts.{Items}
use Rattle.layout_values.specs.Places.{piece_items, place_items_if}
use Rattle.value_reader.proofs.Joined.{Adjoin, chunk_items, joined, joined_places, pad, pad_is, pad_full, pad_same, piece_step}

joined_more : (mem : List Run) (cs : List Chunk) (c : Chunk) → joined mem (cs ++ c ∷ []) ≡ joined mem cs ++ chunk_items mem c
joined_more mem cs c = flat_map-append (chunk_items mem) cs (c ∷ []) ∙ ap (λ items. joined mem cs ++ items) (append-nil (chunk_items mem c))

module _ (snap : Snapshot) (p : Piece) (c : Chunk) (from : (n : ℕ) → items_from snap.mem c.src 0 n ≡ place_items_if 8 snap p.place n) where
  length-piece : length (piece_items 8 snap p) ≡ p.size
  length-piece = ap length (sym (from p.size)) ∙ length-map-range_with_len (item_of snap.mem c.src) 0 p.size

  -- a chunk gives the first items of its piece
  first_items : c.len ≤ p.size → chunk_items snap.mem c ≡ take c.len (piece_items 8 snap p)
  first_items h = sym (take-map-range_with_len (item_of snap.mem c.src) 0 p.size c.len h) ∙ ap (take c.len) (from p.size)

  pub longer : (cs : List Chunk) (off : ℕ) → length (joined snap.mem cs) ≡ off → length (joined snap.mem (cs ++ c ∷ [])) ≡ off + c.len
  longer cs off e =
      let more = ap length (joined_more snap.mem cs c) in
      let own = length-map-range_with_len (item_of snap.mem c.src) 0 c.len in
      omega (arith, more, own, e, length-append {A = Option ℕ})

  -- one more piece
  pub more_items : (cs : List Chunk) (size : ℕ) (all rest : Items) → c.len ≡ min p.size (size - length (joined snap.mem cs))
      → take size all ≡ take size (joined snap.mem cs ++ (piece_items 8 snap p ++ rest)) → take size all ≡ take size (joined snap.mem (cs ++ c ∷ []) ++ rest)
  more_items cs size all rest e f =
      let long = length-piece in
      f
      ∙ piece_step size c.len (joined snap.mem cs) (piece_items 8 snap p) rest (omega (arith, e, long))
      ∙ ap (λ items. take size ((joined snap.mem cs ++ items) ++ rest)) (sym (first_items (omega (arith, e))))
      ∙ ap (λ items. take size (items ++ rest)) (sym (joined_more snap.mem cs c))

-- all pieces
pub all_items : (mem : List Run) (to size : ℕ) (cs : List Chunk) (items : Items) → Adjoin 0 to cs →
    take size items ≡ take size (joined mem cs ++ []) → part_of (chunk_places mem cs 0 size) ≡ take size (items ++ replicate size None)
all_items mem to size cs items h e =
    joined_places mem to size cs h
    ∙ pad_same size (joined mem cs) items (sym (e ∙ ap (take size) (append-nil (joined mem cs))))
    ∙ sym (pad_is size size items (omega arith))

-- the one chunk of a place
pub one_place : (mem : List Run) (c : Chunk) (items : Items) → c.off ≡ 0 → chunk_items mem c ≡ items → part_of (chunk_places mem (c ∷ []) 0 c.len) ≡ items
one_place mem c items e f =
    joined_places mem (c.off + c.len) c.len (c ∷ []) (e, refl)
    ∙ ap (pad c.len) (append-nil (chunk_items mem c))
    ∙ pad_full c.len (chunk_items mem c) (length-map-range_with_len (item_of mem c.src) 0 c.len)
    ∙ f
