-- Document 01, "Numbers of the house".
use Rattle.std.specs.Prelude.{ℕ}

-- "Areas: 8, each 4,096 bytes; the store is exactly 32,768 bytes, area i starting at 4,096·i"
abbrev pub area_count : ℕ
area_count = 8

abbrev pub area_bytes : ℕ
area_bytes = 4096

abbrev pub store_bytes : ℕ
store_bytes = 32768

-- "Filter places: 32"
abbrev pub place_count : ℕ
place_count = 32

-- "Filter numbers: 1 to 65,535"
abbrev pub last_number : ℕ
last_number = 65535

-- "Output buffer: at least 4,278 bytes"
abbrev pub least_output : ℕ
least_output = 4278

-- "a lent list of at least 61 places" (document 02, ticket 2): as many sections a packet finishes at most
abbrev pub least_list : ℕ
least_list = 61

-- "one table_id, 0 to 254" (document 02, ticket 2); 255 stands where no section is
abbrev pub last_table : ℕ
last_table = 254

-- "section_length at most 4,093"
abbrev pub longest_length : ℕ
longest_length = 4093

-- "188-byte transport packets", with a "payload of 184 bytes" at most
abbrev pub packet_bytes : ℕ
packet_bytes = 188

abbrev pub payload_bytes : ℕ
payload_bytes = 184

-- "open: PID above 0x1FFE; making a PID above 0x1FFF"
abbrev pub last_filter_pid : ℕ
last_filter_pid = 0x1FFE

abbrev pub last_pid : ℕ
last_pid = 0x1FFF
