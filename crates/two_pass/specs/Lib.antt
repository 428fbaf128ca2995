pub mod ChangeNights
