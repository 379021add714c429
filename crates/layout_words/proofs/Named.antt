-- Names that are proper or raw are names of a layout file.
use Rattle.std.proofs.Common.{◌≡◌, ◌∙◌, sym, ap, subst, refl, inl, inr, List, ℕ, ◌<◌, IsTrue}
use Rattle.std.specs.List.{All}
use Rattle.std.proofs.lemmas.Bool.{false≢true}
use Rattle.names.specs.declared.name.Name.{Name, out-Name, roll-Name, out-roll-Name, roll-out-Name}
use Rattle.names.specs.declared.name.Name.TheOpen.{Name-F}
use Rattle.names.specs.declared.name.Name.TheVariants.{Raw, rolls-Raw}
use Rattle.names.specs.declared.name.Seg.{Seg}
use Rattle.layout_set.specs.IsSet.{IsNamed}
use Rattle.layout_set.specs.NameShapes.{is_raw}
use Rattle.layout_words.specs.Spellings.{IsName, IsRawLayer}

-- the layer that a raw name opens to
raw_layer : (bytes : List ℕ) → out-Name (Raw bytes) ≡ Name-F.Raw bytes
raw_layer bytes = ap out-Name (sym (rolls-Raw bytes)) ∙ out-roll-Name (Name-F.Raw bytes)

-- a raw name whose bytes are bytes is a name
pub raw_is_name : (name : Name) (bytes : List ℕ) → name ≡ Raw bytes → All (λ b. b < 256) bytes → IsName name
raw_is_name name bytes e h = inr (subst IsRawLayer (sym (ap out-Name e ∙ raw_layer bytes)) h)

-- the name is no raw text
abbrev pub IsNotRaw : Name → Type 0
IsNotRaw name = (bytes : List ℕ) → name ≡ Raw bytes → ⊥

not_raw : (name : Name) (layer : Name-F Name Seg) → out-Name name ≡ layer → IsNotRaw name → IsTrue (is_raw name) → ⊥
not_raw name (Name-F.Raw bytes) e h raw = h bytes (sym (roll-out-Name name) ∙ ap roll-Name e ∙ rolls-Raw bytes)
not_raw name (Name-F.Path segs) e h raw = false≢true (rw e at raw)
not_raw name (Name-F.Pointer kind x) e h raw = false≢true (rw e at raw)
not_raw name (Name-F.Slice x) e h raw = false≢true (rw e at raw)
not_raw name (Name-F.Array x n) e h raw = false≢true (rw e at raw)
not_raw name (Name-F.Tuple xs) e h raw = false≢true (rw e at raw)
not_raw name Name-F.Str e h raw = false≢true (rw e at raw)
not_raw name (Name-F.Dyn xs) e h raw = false≢true (rw e at raw)
not_raw name (Name-F.Fn xs x) e h raw = false≢true (rw e at raw)
not_raw name (Name-F.Number minus n) e h raw = false≢true (rw e at raw)
not_raw name (Name-F.Bind word x) e h raw = false≢true (rw e at raw)

-- a name that is proper or raw, and is no raw text, is proper
pub proper_is_name : (name : Name) → IsNotRaw name → IsNamed name → IsName name
proper_is_name name h (inl proper) = inl proper
proper_is_name name h (inr raw) = absurd (not_raw name (out-Name name) refl h raw)
