-- What is claimed of the definitions and the promises, and proved.
use Rattle.std.specs.Prelude.{◌≡◌, true, false, ◌&&◌, List, [], ◌∷◌, ◌++◌, ℕ, ◌+◌, ◌<◌, length}
use Rattle.ground.specs.Answer.{refused}
use Rattle.ground.specs.Number.{bits}
use Rattle.ground.specs.Outcome.{Determined}
use Rattle.ground.specs.Refusal.{Exact, ExactCall, Silent}
use Rattle.psi.specs.Section.{word_at}
use Rattle.psi.specs.Refusals.{shared}
use Rattle.psi.specs.Loop.{filled, unfilled, onto}
use Rattle.loops.specs.Loop.{Descriptor, descriptors_of, entries_of}
use Rattle.loops.specs.Body.{program_of, streams_of, pmt_own, pmt_refusals}
use Rattle.loops.specs.Walk.{walk_of, Overview, unsurveyed, survey_of}
use Rattle.loops.specs.Promises.{Walks, Surveys}

-- "Descriptors are tag, length, bytes": a descriptor laid out again as the bytes that it stands for
abbrev pub laid_out : Descriptor → List ℕ
laid_out d = d.tag ∷ length d.bytes ∷ d.bytes

-- five bytes lead an entry, of which the last two have its ES_info_length
abbrev pub Leads : List ℕ → Type 0
Leads lead = length lead ≡ 5

-- the ES_info_length of an entry that they lead, and the two bits before it
abbrev pub length_in : List ℕ → ℕ
length_in lead = bits (word_at lead 3) 0 12

abbrev pub bits_before : List ℕ → ℕ
bits_before lead = bits (word_at lead 3) 10 2

pub record Claims : Type 0 where
  -- any two outcomes that the promise of `walk` admits are equal
  pub walks : (s : List ℕ) (number item : ℕ) → Determined (Walks s number item)
  -- any two outcomes that the promise of `survey` admits are equal
  pub surveys : (s : List ℕ) → Determined (Surveys s)
  -- a PMT is refused, and by which number, exactly as its table says
  pub walks_exact : (s : List ℕ) (number item : ℕ) → Exact (pmt_refusals s) (walk_of s number item)
  -- the same of the survey, which after a refusal has no place noted
  pub survey_exact : (s : List ℕ) → ExactCall (pmt_refusals s) (λ (o : Overview). o.answer) unsurveyed (survey_of s)
  -- a loop without bytes is filled, and has no descriptor
  pub no_descriptors : (at : ℕ) → descriptors_of at [] ≡ filled
  -- a loop that starts with a descriptor is that descriptor, and then the loop after it
  pub descriptor_follows : (d : Descriptor) (rest : List ℕ) → descriptors_of d.at (laid_out d ++ rest) ≡ onto d (descriptors_of (d.at + (2 + length d.bytes)) rest)
  -- "and fill their loop exactly": a descriptor whose length overruns its loop leaves it unfilled, and so does a tag without a length
  pub descriptor_overruns : (at tag n : ℕ) (rest : List ℕ) → length rest < n → descriptors_of at (tag ∷ n ∷ rest) ≡ unfilled
  pub descriptor_cut : (at tag : ℕ) → descriptors_of at (tag ∷ []) ≡ unfilled
  -- where no bytes are left there is no further entry
  pub no_entries : (at : ℕ) → entries_of at [] ≡ filled
  -- "An entry is followed by its descriptors, and these by the next entry"
  pub entry_follows : (at : ℕ) (lead own rest : List ℕ) → Leads lead → bits_before lead ≡ 0 → length_in lead ≡ length own → (descriptors_of (at + 5) own).fills ≡ true
      → entries_of at (lead ++ (own ++ rest)) ≡ onto (record { at = at; lead = lead; descriptors = (descriptors_of (at + 5) own).items }) (entries_of (at + (5 + length own)) rest)
  -- "until the section's own length is used up exactly": an ES_info_length that overruns what is left leaves the loop unfilled, and so does an entry of fewer than five bytes
  pub entry_overruns : (at : ℕ) (lead rest : List ℕ) → Leads lead → length rest < length_in lead → entries_of at (lead ++ rest) ≡ unfilled
  pub entry_cut : (at : ℕ) (bytes : List ℕ) → 0 < length bytes → length bytes < 5 → entries_of at bytes ≡ unfilled
  -- "The first two bits of both lengths are 00"
  pub entry_bits : (at : ℕ) (lead rest : List ℕ) → Leads lead → 0 < bits_before lead → entries_of at (lead ++ rest) ≡ unfilled
  -- an entry's descriptors "fill their loop exactly" too
  pub entry_unfilled : (at : ℕ) (lead own rest : List ℕ) → Leads lead → length_in lead ≡ length own → (descriptors_of (at + 5) own).fills ≡ false
      → entries_of at (lead ++ (own ++ rest)) ≡ unfilled
  -- a loop that is not filled is refused 26, where nothing before it is refused
  pub unfilled_refused : (s : List ℕ) (number item : ℕ) → Silent (shared 2 13 s ++ pmt_own s) → ((program_of s).fills && (streams_of s).fills) ≡ false
      → walk_of s number item ≡ refused 26
