mod TransferLaws
pub mod OutsideLaws
