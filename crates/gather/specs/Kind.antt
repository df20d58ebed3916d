-- Document 01, "From payload to sections": what stands where a section should: nothing, a part of a section, one that is too long, or a whole one.
use Rattle.std.specs.Prelude.{Bool, cond, ◌&&◌, ◌||◌, List, [], ◌∷◌, ◌++◌, ℕ, ◌+◌, ltb, leb, eqb, length, get_or, take}
use Rattle.ground.specs.House.{longest_length}
use Rattle.ground.specs.Items.{takes, items}
use Rattle.section.specs.Section.{section_length, section_size}
use Rattle.gather.specs.declared.kind.Kind.{Kind}
use Rattle.gather.specs.declared.kind.Kind.TheVariants.{Nothing, Part, Overlong, Whole}

-- the kind of `size` bytes with this first byte and this section_length ("From payload to sections": the bytes end, or 0xFF stands where a table_id should; "Section": 3 + section_length bytes, section_length at most 4,093)
unfoldable pub kind_of : ℕ → ℕ → ℕ → Kind
kind_of first len size =
    cond (eqb size 0) Nothing
    (cond (eqb first 255) Nothing
    (cond (ltb size 3) Part
    (cond (ltb longest_length len) Overlong
    (cond (ltb size (3 + len)) Part
    (Whole (3 + len))))))

-- the kind of some bytes
unfoldable pub classify : List ℕ → Kind
classify s = kind_of (get_or s 0 0) (section_length s) (length s)

-- no bytes
abbrev pub is_empty : List ℕ → Bool
is_empty s = eqb (length s) 0

-- refusal 9 ("Filters and areas"): "the held bytes start with 0xFF, or 3 or more are held and their section_length is above 4,093 or already met"
abbrev pub contradicting : List ℕ → Bool
contradicting held =
    eqb (get_or held 0 0) 255 || (leb 3 (length held) && (ltb longest_length (section_length held) || leb (section_size held) (length held)))

-- sections joined, one after the other
abbrev pub join : List (List ℕ) → List ℕ
join [] = []
join (s ∷ ss) = s ++ join ss

-- joined sections cut again, each after its 3 + section_length bytes
abbrev pub cut : List ℕ → List (List ℕ)
cut s = items ◌∷◌ (λ rest. takes (section_size rest) (take (section_size rest) rest)) [] s
