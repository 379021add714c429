-- The CodeView text of a proper name is one of its spellings, and only proper names have any.
use Rattle.std.proofs.Common.{◌≡◌, ℕ, zero, suc, List, [], ◌∷◌, ◌++◌, map, ◌⊎◌, inl, inr, refl, sym, subst, codes}
use Rattle.std.specs.List.{AllByRecursion}
use Rattle.names.specs.Joined.{IsJoined, joined}
use Rattle.names.specs.declared.name.Name.{Name, out-Name}
use Rattle.names.specs.declared.name.Name.TheOpen.{Name-F}
use Rattle.names.specs.declared.name.Name.TheVariants.{Path, Pointer, Slice, Array, Tuple, Str, Dyn, Fn, Number, Bind, Raw, outs-Path}
use Rattle.names.specs.declared.name.Name.TheVariants.{outs-Pointer, outs-Slice, outs-Array, outs-Tuple, outs-Str, outs-Dyn, outs-Fn}
use Rattle.names.specs.declared.name.Name.TheVariants.{outs-Number, outs-Bind, outs-Raw}
use Rattle.names.specs.declared.name.Seg.{Seg}
use Rattle.names.specs.Names.{Role, whole, arg, member, IsNoMember, IsSeg, IsLayer, Stands}
use Rattle.cv_names.specs.CvText.{cv_text, cv_seg_text, cv_args_text, closed, AreCvArgs, CvSeg, CvLayer, CvSpelled}
use Rattle.names.proofs.Joined.{text_joined}
use Rattle.names.proofs.Cases.{Name-cases}
use Rattle.cv_names.proofs.CvLevels.{cv-Path, cv-Pointer, cv-Slice, cv-Array, cv-Tuple, cv-Str, cv-Dyn, cv-Fn, cv-Number, cv-Bind, cv-Seg}

module _ (P : Role → Name → Type 0) (S : Role → Name → List ℕ → Type 0) (each : (role : Role) (n : Name) → P role n → S role n (cv_text n)) where
  to_args : (xs : List Name) → AllByRecursion (P arg) xs → AreCvArgs (S arg) xs (cv_args_text (map cv_text xs))
  to_args [] h = refl
  to_args (x ∷ xs) h = (joined (codes ",") (map cv_text (x ∷ xs)), (text_joined (S arg) (P arg) cv_text (codes ",") (each arg) (x ∷ xs) h, refl))

  to_seg : (s : Seg) → IsSeg P s → CvSeg S s (cv_seg_text s)
  to_seg s h = (h.0, (h.1.0, (cv_args_text (map cv_text s.args), (to_args s.args h.1.1, cv-Seg s))))

  to_names : (role : Role) (xs : List Name) → AllByRecursion (P role) xs → IsJoined (S role) (codes ",") xs (joined (codes ",") (map cv_text xs))
  to_names role = text_joined (S role) (P role) cv_text (codes ",") (each role)

  module _ (role : Role) where
    abbrev Goal : Name → Type 0
    Goal n = IsLayer P role (out-Name n) → CvLayer S role (out-Name n) (cv_text n)

    at : (n : Name) (l : Name-F Name Seg) → out-Name n ≡ l → (IsLayer P role l → CvLayer S role l (cv_text n)) → Goal n
    at n l e f h = subst (λ l. CvLayer S role l (cv_text n)) (sym e) (f (subst (IsLayer P role) e h))

    to_layer : (n : Name) → Goal n
    to_layer =
        Name-cases Goal
        (λ segs. at (Path segs) (Name-F.Path segs) (outs-Path segs)
        (λ h. (
          h.0,
          (
            h.1.0,
            subst (IsJoined (CvSeg S) (codes "::") segs) (sym (cv-Path segs))
                (text_joined (CvSeg S) (IsSeg P) cv_seg_text (codes "::") to_seg segs h.1.1),
          ),
        )))
        (λ kind x. at (Pointer kind x) (Name-F.Pointer kind x) (outs-Pointer kind x)
        (λ h. (h.0, (h.1.0, (cv_text x, (each whole x h.1.1, cv-Pointer kind x))))))
        (λ x. at (Slice x) (Name-F.Slice x) (outs-Slice x) (λ h. (h.0, (cv_text x, (each whole x h.1, cv-Slice x)))))
        (λ x n. at (Array x n) (Name-F.Array x n) (outs-Array x n) (λ h. (h.0, (h.1.1, (cv_text x, (each whole x h.1.0, cv-Array x n))))))
        (λ xs. at (Tuple xs) (Name-F.Tuple xs) (outs-Tuple xs) (λ h. (h.0, (joined (codes ",") (map cv_text xs), (to_names whole xs h.1, cv-Tuple xs)))))
        (at Str Name-F.Str outs-Str (λ h. (h, cv-Str)))
        (λ xs. at (Dyn xs) (Name-F.Dyn xs) (outs-Dyn xs) (λ h. (h.0, (h.1.0, (joined (codes ",") (map cv_text xs), (to_names member xs h.1.1, cv-Dyn xs))))))
        (λ xs x. at (Fn xs x) (Name-F.Fn xs x) (outs-Fn xs x)
        (λ h. (h.0, (joined (codes ",") (map cv_text (x ∷ xs)), (to_names whole (x ∷ xs) (h.1.1, h.1.0), cv-Fn xs x)))))
        (λ minus n. at (Number minus n) (Name-F.Number minus n) (outs-Number minus n) (λ h. (h.0, (h.1.0, (h.1.1, cv-Number minus n)))))
        (λ w x. at (Bind w x) (Name-F.Bind w x) (outs-Bind w x) (λ h. (h.0, (h.1.0, (cv_text x, (each whole x h.1.1, cv-Bind w x))))))
        (λ t. at (Raw t) (Name-F.Raw t) (outs-Raw t) (λ h. h))

-- the text of a name is one of its spellings
pub cv_spelled : (d : ℕ) (role : Role) (n : Name) → Stands d role n → CvSpelled d role n (cv_text n)
unfolding Stands CvSpelled
cv_spelled zero role n h = h
cv_spelled (suc d) role n h = inl (to_layer (Stands d) (CvSpelled d) (cv_spelled d) role n h)

-- items that each have a text have P
all_joined : {A : Type 0} (S : A → List ℕ → Type 0) (P : A → Type 0) (sep : List ℕ) → ((x : A) (t : List ℕ) → S x t → P x) → (xs : List A) (t : List ℕ) →
    IsJoined S sep xs t → AllByRecursion P xs
all_joined S P sep each [] t h = tt
all_joined S P sep each (x ∷ []) t h = (each x t h, tt)
all_joined S P sep each (x ∷ y ∷ rest) t (a, (b, (h, (g, e)))) = (each x a h, all_joined S P sep each (y ∷ rest) b g)

module _ (P : Role → Name → Type 0) (S : Role → Name → List ℕ → Type 0) (each : (role : Role) (n : Name) (t : List ℕ) → S role n t → P role n) where
  of_args : (xs : List Name) (t : List ℕ) → AreCvArgs (S arg) xs t → AllByRecursion (P arg) xs
  of_args [] t h = tt
  of_args (x ∷ xs) t h = all_joined (S arg) (P arg) (codes ",") (each arg) (x ∷ xs) h.0 h.1.0

  of_seg : (s : Seg) (t : List ℕ) → CvSeg S s t → IsSeg P s
  of_seg s t h = (h.0, (h.1.0, of_args s.args h.1.1.0 h.1.1.1.0))

  of_names : (role : Role) (xs : List Name) (t : List ℕ) → IsJoined (S role) (codes ",") xs t → AllByRecursion (P role) xs
  of_names role = all_joined (S role) (P role) (codes ",") (each role)

  of_layer : (role : Role) (l : Name-F Name Seg) (t : List ℕ) → CvLayer S role l t → IsLayer P role l
  of_layer role (Name-F.Path segs) t h = (h.0, (h.1.0, all_joined (CvSeg S) (IsSeg P) (codes "::") of_seg segs t h.1.1))
  of_layer role (Name-F.Pointer kind x) t h = (h.0, (h.1.0, each whole x h.1.1.0 h.1.1.1.0))
  of_layer role (Name-F.Slice x) t h = (h.0, each whole x h.1.0 h.1.1.0)
  of_layer role (Name-F.Array x n) t h = (h.0, (each whole x h.1.1.0 h.1.1.1.0, h.1.0))
  of_layer role (Name-F.Tuple xs) t h = (h.0, of_names whole xs h.1.0 h.1.1.0)
  of_layer role Name-F.Str t h = h.0
  of_layer role (Name-F.Dyn xs) t h = (h.0, (h.1.0, of_names member xs h.1.1.0 h.1.1.1.0))
  of_layer role (Name-F.Fn xs x) t h = let all = of_names whole (x ∷ xs) h.1.0 h.1.1.0 in (h.0, (all.1, all.0))
  of_layer role (Name-F.Number minus n) t h = (h.0, (h.1.0, h.1.1.0))
  of_layer role (Name-F.Bind w x) t h = (h.0, (h.1.0, each whole x h.1.1.0 h.1.1.1.0))
  of_layer role (Name-F.Raw s) t h = h

  -- a path stands wherever a member does
  path_anywhere : (role : Role) (l : Name-F Name Seg) → IsNoMember role → IsLayer P member l → IsLayer P role l
  path_anywhere role (Name-F.Path segs) ok h = h
  path_anywhere role (Name-F.Pointer kind x) ok h = absurd h.0
  path_anywhere role (Name-F.Slice x) ok h = absurd h.0
  path_anywhere role (Name-F.Array x n) ok h = absurd h.0
  path_anywhere role (Name-F.Tuple xs) ok h = absurd h.0
  path_anywhere role Name-F.Str ok h = absurd h
  path_anywhere role (Name-F.Dyn xs) ok h = absurd h.0
  path_anywhere role (Name-F.Fn xs x) ok h = absurd h.0
  path_anywhere role (Name-F.Number minus n) ok h = absurd h.0
  path_anywhere role (Name-F.Bind w x) ok h = absurd h.0
  path_anywhere role (Name-F.Raw s) ok h = absurd h

  of_either : (role : Role) (n : Name) (t : List ℕ) →
      CvLayer S role (out-Name n) t ⊎ (IsNoMember role × ((a : List ℕ) × (CvLayer S member (out-Name n) a × (t ≡ closed (codes "enum2$<" ++ a))))) →
      IsLayer P role (out-Name n)
  of_either role n t (inl h) = of_layer role (out-Name n) t h
  of_either role n t (inr h) = path_anywhere role (out-Name n) h.0 (of_layer member (out-Name n) h.1.0 h.1.1.0)

-- what has a spelling is proper
pub cv_stands : (d : ℕ) (role : Role) (n : Name) (t : List ℕ) → CvSpelled d role n t → Stands d role n
unfolding Stands CvSpelled
cv_stands zero role n t h = h
cv_stands (suc d) role n t h = of_either (Stands d) (CvSpelled d) (cv_stands d) role n t h
