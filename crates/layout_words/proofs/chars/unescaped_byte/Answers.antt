use Rattle.std.proofs.Common.{◌∙◌, sym, ap, arith, inl, inr, ◌∷◌, ◌-◌, length, take, drop}
use Rattle.layout_words.specs.Spellings.{unescaped}
use Rattle.layout_words.proofs.Escapes.{unescaped_plain, unescaped_lone, digits_behind, byte_behind}
use Rattle.layout_words.proofs.chars.unescaped_byte.Goals as goal
use Rattle.layout_words.proofs.chars.unescaped_byte.Goals.{then-c-ne92-via-then-c-ne92, then-c-ne92-via-else-c-ne92+then-is_empty, else-more-eq120-via-then-more-eq120+else-more-gt2, else-more-eq120-via-else-more-eq120}

pub returns-then-c-ne92-clause-first : goal.returns-then-c-ne92-clause-first
returns-then-c-ne92-clause-first c = elim c.then-c-ne92.branch [
  | then-c-ne92-via-then-c-ne92 w ↦ unescaped_plain c.args.c c.args.more.now w.if-c-ne92.true
  | then-c-ne92-via-else-c-ne92+then-is_empty w ↦ unescaped_lone c.args.c c.args.more.now (grind (arith, w.is_empty.ensures, w.if-is_empty.true))
]

pub returns-then-more-gt2-clause-first : goal.returns-then-more-gt2-clause-first
returns-then-more-gt2-clause-first c =
    ap (λ x. unescaped (x ∷ c.args.more.now)) c.if-c-ne92.false
    ∙ digits_behind c.args.more.now c.if-more-eq120.true c.if-more-gt2.true
    ∙ ap (λ b. b ∷ unescaped (take (length c.args.more.now - 3) (drop 3 c.args.more.now))) (sym c.byte_of.ensures)

pub returns-clause-first : goal.returns-clause-first
returns-clause-first c =
    ap (λ x. unescaped (x ∷ c.args.more.now)) c.if-c-ne92.false
    ∙ byte_behind c.args.more.now (elim c.else-more-eq120.branch [
      | else-more-eq120-via-then-more-eq120+else-more-gt2 w ↦ inr w.if-more-gt2.false
      | else-more-eq120-via-else-more-eq120 w ↦ inl w.if-more-eq120.false
    ]) (grind (arith, c.is_empty.ensures, c.if-is_empty.false))
