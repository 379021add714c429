-- A name that is no text counts as none.
use Rattle.std.proofs.Common.{◌≡◌, ℕ, nat_lt, if◌then◌else◌, List, [], drop, length, Bool, true, false, Option, Some, None, option_and_then, unwrap_or, refl, sym, ap, ◌∙◌}
use Rattle.std.specs.Bool.{⊤}
use Rattle.std.specs.Option.{option_map}
use Rattle.dwarf_abbrev.specs.Values.{Val}
use Rattle.dwarf_entries.specs.Codes.{at_name}
use Rattle.dwarf_entries.specs.Dies.{Die, Info}
use Rattle.dwarf_entries.specs.Lookups.{attribute_of}
use Rattle.dwarf_entries.specs.Shapes.{Attribute, Sections}
use Rattle.dwarf_entries.specs.TextResults.{IsNoText}
use Rattle.dwarf_entries.specs.Texts.{Found, found_at, found_in, found_inline, indexed, own_text, text_found, text_in}
use Rattle.dwarf_entries.specs.declared.sections.Bases.{Bases}
use Rattle.dwarf_entries.specs.declared.text.TextErr.{TextErr}
use Rattle.layout_set.specs.declared.refusal.Section.{Section}
use Rattle.rv_bytes.specs.NumberReaders.{read_text}
use Rattle.rv_bytes.specs.Numbers.{text_breaks}
use Rattle.rv_bytes.specs.Readers.{Res, got, bad}

-- what breaks a rule has an empty text
abbrev IsClean : Option Found → Type 0
IsClean None = ⊤
IsClean (Some f) = (rule : ℕ) → f.rule ≡ Some rule → f.text ≡ []

clean_inline : (at : ℕ) (text : List ℕ) (rule : Option ℕ) → IsClean (Some (found_inline at text rule))
clean_inline at text None = λ rule h. absurd (cc)
clean_inline at text (Some r) = λ rule h. refl

clean_in : (section : Section) (r : Res ℕ (List ℕ)) (offset : ℕ) → IsClean (Some (found_in section r offset))
clean_in section (got text past rest) offset = λ rule h. absurd (cc)
clean_in section (bad r at) offset = λ rule h. refl

clean_if : (section : Section) (texts : List ℕ) (offset : ℕ) (b : Bool)
    → IsClean (if b then Some (found_in section (read_text offset (drop offset texts)) offset) else None)
clean_if section texts offset true = clean_in section (read_text offset (drop offset texts)) offset
clean_if section texts offset false = tt

clean_at : (section : Section) (texts : List ℕ) (offset : ℕ) → IsClean (found_at section texts offset)
clean_at section texts offset = clean_if section texts offset (nat_lt offset (length texts))

clean_indexed : (texts : List ℕ) (o : Option ℕ) → IsClean (option_and_then (found_at Section.Str texts) o)
clean_indexed texts None = tt
clean_indexed texts (Some offset) = clean_at Section.Str texts offset

clean : (sections : Sections) (bases : Bases) (at : ℕ) (v : Val) → IsClean (text_in sections bases at v)
clean sections bases at (Val.Inline text) = clean_inline at text (text_breaks text)
clean sections bases at (Val.StrAt n) = clean_at Section.Str sections.text n
clean sections bases at (Val.LineStrAt n) = clean_at Section.LineStr sections.line_text n
clean sections bases at (Val.StrIndex i) = clean_indexed sections.text (indexed 4 sections.text_offsets bases.text_offsets i)
clean sections bases at (Val.Addr n) = tt
clean sections bases at (Val.AddrIndex n) = tt
clean sections bases at (Val.Unsigned n) = tt
clean sections bases at (Val.Signed n) = tt
clean sections bases at (Val.Wide n) = tt
clean sections bases at (Val.Block n) = tt
clean sections bases at (Val.Expr n) = tt
clean sections bases at (Val.Flag n) = tt
clean sections bases at (Val.UnitRef n) = tt
clean sections bases at (Val.InfoRef n) = tt
clean sections bases at (Val.SecOffset n) = tt
clean sections bases at (Val.LocIndex n) = tt
clean sections bases at (Val.RangeIndex n) = tt

abbrev text_of_found : Option Found → List ℕ
text_of_found f = unwrap_or (option_map (λ (f : Found). f.text) f) []

no_text_found : (f : Option Found) (e : TextErr) → IsClean f → IsNoText f e → [] ≡ text_of_found f
no_text_found None e c h = refl
no_text_found (Some f) TextErr.Outside c h = absurd h
no_text_found (Some f) (TextErr.Broken r) c h = sym (c r.rule h.0)

-- an entry whose name is no text has an empty one
pub no_text : (info : Info) (d : Die) (a : Attribute) (e : TextErr) → ◌≡◌ {A = Option Attribute} (Some a) (attribute_of at_name d.entry)
    → IsNoText (text_found info.sections d.bases a) e → [] ≡ own_text info d
no_text info d a e named h =
    no_text_found (text_found info.sections d.bases a) e (clean info.sections d.bases a.offset a.value) h
    ∙ ap (λ o. text_of_found (option_and_then (text_found info.sections d.bases) o)) named
