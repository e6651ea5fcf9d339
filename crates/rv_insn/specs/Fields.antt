-- The fields of an instruction: numbers from its bits, and immediates by where their bits lie.
-- Manual, sections 2.2 and 2.3, and 16.2 to 16.8 for the compressed formats.
use Rattle.std.specs.Prelude.{ℕ, ℤ, pos, ◌-ℤ◌, ◌*ℤ◌, ◌+◌, ◌-◌, ◌*◌, ◌/◌, ◌%◌, ◌^◌, ◌==◌, Bool}
use Rattle.std.specs.Prelude.{nat_lt, if◌then◌else◌}

-- the number in the bits from `high` down to `low`
abbrev pub field : ℕ → ℕ → ℕ → ℕ
field bits high low = bits / 2 ^ low % 2 ^ (high - low + 1)

-- the number as one with a sign: from `half` on it stands for itself less twice `half`
abbrev pub signed : ℕ → ℕ → ℤ
signed half n = if nat_lt n half then pos n else (pos n -ℤ pos (2 * half))

-- a register of the compressed formats that have three bits for it
abbrev pub popular : ℕ → ℕ → ℕ
popular bits low = 8 + field bits (low + 2) low

-- a bit is set
abbrev pub is_set : ℕ → ℕ → Bool
is_set bits place = field bits place place == 1

-- ---- immediates of 32 bits: manual, section 2.3, figure 2.4
-- imm[11:0] in bits 31:20
abbrev pub imm_i : ℕ → ℤ
imm_i b = signed (2 ^ 11) (field b 31 20)

-- imm[11:5] in 31:25, imm[4:0] in 11:7
abbrev pub imm_s : ℕ → ℤ
imm_s b = signed (2 ^ 11) (field b 31 25 * 2 ^ 5 + field b 11 7)

-- imm[12] in 31, imm[11] in 7, imm[10:5] in 30:25, imm[4:1] in 11:8
abbrev pub imm_b : ℕ → ℤ
imm_b b = signed (2 ^ 12)
    (field b 31 31 * 2 ^ 12 + field b 7 7 * 2 ^ 11 + field b 30 25 * 2 ^ 5 + field b 11 8 * 2)

-- imm[31:12] in 31:12
abbrev pub imm_u : ℕ → ℤ
imm_u b = signed (2 ^ 19) (field b 31 12) *ℤ pos (2 ^ 12)

-- imm[20] in 31, imm[19:12] in 19:12, imm[11] in 20, imm[10:1] in 30:21
abbrev pub imm_j : ℕ → ℤ
imm_j b = signed (2 ^ 20)
    (field b 31 31 * 2 ^ 20 + field b 19 12 * 2 ^ 12 + field b 20 20 * 2 ^ 11 + field b 30 21 * 2)

-- ---- immediates of 16 bits: manual, sections 16.3 to 16.5 and 16.8
-- six bits of C.LI, C.ADDI, C.ANDI, C.LUI and the shifts: imm[5] in 12, imm[4:0] in 6:2
abbrev pub imm_ci : ℕ → ℕ
imm_ci b = field b 12 12 * 2 ^ 5 + field b 6 2

abbrev pub imm_ci_signed : ℕ → ℤ
imm_ci_signed b = signed (2 ^ 5) (imm_ci b)

-- C.ADDI16SP: imm[9] in 12, imm[8:7] in 4:3, imm[6] in 5, imm[5] in 2, imm[4] in 6
abbrev pub imm_stack : ℕ → ℤ
imm_stack b = signed (2 ^ 9)
    (field b 12 12 * 2 ^ 9 + field b 4 3 * 2 ^ 7 + field b 5 5 * 2 ^ 6 + field b 2 2 * 2 ^ 5
    + field b 6 6 * 2 ^ 4)

-- C.ADDI4SPN: imm[9:6] in 10:7, imm[5:4] in 12:11, imm[3] in 5, imm[2] in 6
abbrev pub imm_ciw : ℕ → ℕ
imm_ciw b = field b 10 7 * 2 ^ 6 + field b 12 11 * 2 ^ 4 + field b 5 5 * 2 ^ 3 + field b 6 6 * 2 ^ 2

-- a word from a register: imm[6] in 5, imm[5:3] in 12:10, imm[2] in 6
abbrev pub imm_word : ℕ → ℕ
imm_word b = field b 5 5 * 2 ^ 6 + field b 12 10 * 2 ^ 3 + field b 6 6 * 2 ^ 2

-- a double word from a register: imm[7:6] in 6:5, imm[5:3] in 12:10
abbrev pub imm_double : ℕ → ℕ
imm_double b = field b 6 5 * 2 ^ 6 + field b 12 10 * 2 ^ 3

-- a word from the stack: imm[7:6] in 3:2, imm[5] in 12, imm[4:2] in 6:4
abbrev pub imm_load_word : ℕ → ℕ
imm_load_word b = field b 3 2 * 2 ^ 6 + field b 12 12 * 2 ^ 5 + field b 6 4 * 2 ^ 2

-- a double word from the stack: imm[8:6] in 4:2, imm[5] in 12, imm[4:3] in 6:5
abbrev pub imm_load_double : ℕ → ℕ
imm_load_double b = field b 4 2 * 2 ^ 6 + field b 12 12 * 2 ^ 5 + field b 6 5 * 2 ^ 3

-- a word to the stack: imm[7:6] in 8:7, imm[5:2] in 12:9
abbrev pub imm_store_word : ℕ → ℕ
imm_store_word b = field b 8 7 * 2 ^ 6 + field b 12 9 * 2 ^ 2

-- a double word to the stack: imm[8:6] in 9:7, imm[5:3] in 12:10
abbrev pub imm_store_double : ℕ → ℕ
imm_store_double b = field b 9 7 * 2 ^ 6 + field b 12 10 * 2 ^ 3

-- C.BEQZ and C.BNEZ: imm[8] in 12, imm[7:6] in 6:5, imm[5] in 2, imm[4:3] in 11:10, imm[2:1] in 4:3
abbrev pub imm_cb : ℕ → ℤ
imm_cb b = signed (2 ^ 8)
    (field b 12 12 * 2 ^ 8 + field b 6 5 * 2 ^ 6 + field b 2 2 * 2 ^ 5 + field b 11 10 * 2 ^ 3
    + field b 4 3 * 2)

-- C.J and C.JAL: imm[11] in 12, imm[10] in 8, imm[9:8] in 10:9, imm[7] in 6, imm[6] in 7, imm[5] in 2,
-- imm[4] in 11, imm[3:1] in 5:3
abbrev pub imm_cj : ℕ → ℤ
imm_cj b = signed (2 ^ 11)
    (field b 12 12 * 2 ^ 11 + field b 8 8 * 2 ^ 10 + field b 10 9 * 2 ^ 8 + field b 6 6 * 2 ^ 7
    + field b 7 7 * 2 ^ 6 + field b 2 2 * 2 ^ 5 + field b 11 11 * 2 ^ 4 + field b 5 3 * 2)
