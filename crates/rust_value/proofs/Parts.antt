-- The texts of parts, from the texts of their values.
use Rattle.std.proofs.Common.{◌≡◌, ◌∙◌, ap, true, false, cond, Bool, List, ◌++◌, map, codes}
use mathlib.Core.List.{map-map}
use Rattle.names.specs.Joined.{joined}
use Rattle.rust_value.specs.declared.value.Part.{Part, fold-roll-Part}
use Rattle.rust_value.specs.Utf8.{has_texts, part_has_texts}
use Rattle.rust_value.specs.Utf8 as utf8
use Rattle.rust_value.specs.Texts.{Shown, text_of, shown_part, val_step, part_step, are_numbered, named_text, parts_text}

-- the text of a part is that of its value
pub shown-value : (part : Part) → (shown_part part).1 ≡ text_of part.val
shown-value part = ap (λ (s : Shown). s.1) (fold-roll-Part (List _) Shown val_step part_step (record { name = part.name; val = part.val }))

-- the texts of a part are those of its value
pub texts-value : (part : Part) → part_has_texts part ≡ has_texts part.val
texts-value part = fold-roll-Part Bool Bool utf8.val_step utf8.part_step (record { name = part.name; val = part.val })

pub numbered-text : (parts : List Part) → are_numbered 0 (map shown_part parts) ≡ true →
    parts_text (map shown_part parts) ≡ codes "(" ++ joined (codes ", ") (map (λ part. (shown_part part).1) parts) ++ codes ")"
numbered-text parts h =
    ap (λ b. cond b (codes "(" ++ joined (codes ", ") (map (λ (part : Shown). part.1) (map shown_part parts)) ++ codes ")")
    (codes "{" ++ joined (codes ", ") (map named_text (map shown_part parts)) ++ codes "}")) h
    ∙ ap (λ l. codes "(" ++ joined (codes ", ") l ++ codes ")") (map-map (λ (part : Shown). part.1) shown_part parts)

pub named-text : (parts : List Part) → are_numbered 0 (map shown_part parts) ≡ false →
    parts_text (map shown_part parts) ≡ codes "{" ++ joined (codes ", ") (map (λ part. named_text (shown_part part)) parts) ++ codes "}"
named-text parts h =
    ap (λ b. cond b (codes "(" ++ joined (codes ", ") (map (λ (part : Shown). part.1) (map shown_part parts)) ++ codes ")")
    (codes "{" ++ joined (codes ", ") (map named_text (map shown_part parts)) ++ codes "}")) h
    ∙ ap (λ l. codes "{" ++ joined (codes ", ") l ++ codes "}") (map-map named_text shown_part parts)
